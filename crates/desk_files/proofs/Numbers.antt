-- How a number is read, byte by byte: a law for each way that the loop goes.
use Rattle.std.proofs.Common.{◌≡◌, List, ℕ, ◌+◌, ◌-◌, ◌*◌, ◌≤◌, ◌<◌, Bool, true, false, cond, ltb, Option, Some, None, refl, suc, add-one, arith, length, get_or, drop, drop-cons}
use Rattle.std.proofs.lemmas.Bool.{lt-ltb, le-ltb}
use Rattle.std.proofs.Math.ListN.{drop_of_length-le}
use Rattle.desk_files.specs.Numbers.{number_most, digit_of, number_from, number_in}

pub number-none : (text : List ℕ) → length text ≡ 0 → None ≡ number_in text
unfolding number_in
number-none text h = rw (le-ltb 0 (length text) (omega arith))

pub number-starts : (text : List ℕ) → 0 < length text → number_from 0 text ≡ number_in text
unfolding number_in
number-starts text h = rw (lt-ltb 0 (length text) h)

pub number_end : (text : List ℕ) (value i : ℕ) → length text ≤ i → Some value ≡ number_from value (drop i text)
unfolding number_from
number_end text value i h = rw (drop_of_length-le text h)

-- no digit
stops : (low high large : Bool) (d : ℕ) (rest : Option ℕ) → cond low None (cond high None (Some d)) ≡ None → None ≡ cond low None (cond high None (cond large None rest))
stops true high large d rest e = refl
stops false true large d rest e = refl
stops false false large d rest e = cc

-- a number above the most
grows : (low high : Bool) → let none : Option ℕ = None in none ≡ cond low none (cond high none none)
grows true high = refl
grows false true = refl
grows false false = refl

-- a digit
goes_on : (low high : Bool) (x d : ℕ) (rest : Option ℕ) → cond low None (cond high None (Some x)) ≡ Some d → (d ≡ x) × (rest ≡ cond low None (cond high None rest))
goes_on true high x d rest e = cc
goes_on false true x d rest e = cc
goes_on false false x d rest e = (cc, refl)

module _ (text : List ℕ) (value i : ℕ) (h : i < length text) where
  pub number_stops : digit_of (get_or text i 0) ≡ None → None ≡ number_from value (drop i text)
  unfolding digit_of number_from
  number_stops e =
      let x = get_or text i 0 in
      rw (drop-cons text i 0 h) (stops (ltb x 48) (ltb 57 x) (ltb number_most (value * 10 + (x - 48))) (x - 48) (number_from (value * 10 + (x - 48)) (drop (suc i) text)) e)

  pub number_large : number_most < value * 10 + (get_or text i 0 - 48) → None ≡ number_from value (drop i text)
  unfolding number_from
  number_large l = rw (drop-cons text i 0 h, lt-ltb number_most (value * 10 + (get_or text i 0 - 48)) l) (grows (ltb (get_or text i 0) 48) (ltb 57 (get_or text i 0)))

  module _ (d : ℕ) (e : digit_of (get_or text i 0) ≡ Some d) where
    pub digit_is : d ≡ get_or text i 0 - 48
    unfolding digit_of
    digit_is = let x = get_or text i 0 in (goes_on (ltb x 48) (ltb 57 x) (x - 48) d None e).0

    pub number_takes : value * 10 + d ≤ number_most → number_from (value * 10 + d) (drop (i + 1) text) ≡ number_from value (drop i text)
    unfolding digit_of number_from
    number_takes l =
        rw (digit_is, drop-cons text i 0 h, le-ltb number_most (value * 10 + (get_or text i 0 - 48)) (rw (← digit_is) l), add-one)
        ((goes_on (ltb (get_or text i 0) 48) (ltb 57 (get_or text i 0)) (get_or text i 0 - 48) d (number_from (value * 10 + (get_or text i 0 - 48)) (drop (suc i) text)) e).1)

-- the same by the byte itself
module _ (text : List ℕ) (value i x : ℕ) (h : i < length text) (e : x ≡ get_or text i 0) where
  pub number_low : x < 48 → None ≡ number_from value (drop i text)
  unfolding number_from
  number_low l = rw (drop-cons text i 0 h, ← e, lt-ltb x 48 l)

  pub number_goes_on : 48 ≤ x → x ≤ 57 → value * 10 + (x - 48) ≤ number_most
      → number_from (value * 10 + (x - 48)) (drop (i + 1) text) ≡ number_from value (drop i text)
  unfolding number_from
  number_goes_on l k m = rw (drop-cons text i 0 h, ← e, le-ltb x 48 l, le-ltb 57 x k, le-ltb number_most (value * 10 + (x - 48)) m, add-one)
