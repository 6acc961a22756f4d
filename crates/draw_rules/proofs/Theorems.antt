-- What is drawn is well formed: residues are below 251, permutations are permutations, challenges and bits are frames that are read as the
-- values drawn, and choices pass their check.
use mathlib.Core.Path.{◌≡◌, refl, sym, ap, ◌∙◌, subst}
use mathlib.Core.Bool.{Bool, true, cond}
use mathlib.Core.List.{List, [], ◌∷◌, ◌++◌}
use Prim.Native.Nat.{ℕ, zero, suc, ◌≤◌, ◌<◌}
use native.Mathlib.Numerals.{add-one}
use native.Mathlib.Omega.{arith}
use lib.ListN.{length, take}
use lib.Seq.{take-suc}
use Rattle.refusals.specs.Told.{done, fine}
use Rattle.algebra.specs.Lists.{tab}
use Rattle.algebra.specs.Residues.{modulus, Residues}
use Rattle.algebra.specs.Permutations.{IsPerm}
use Rattle.random.specs.Drawings.{Drawing, drew, ran_out, draw_permutation}
use Rattle.algebra.proofs.Lists.{length-tab, get_or-tab, tab_of}
use Rattle.random.proofs.Drawings.{Permutes, drawn-perm}
use Rattle.random.proofs.Fair.{drawn-at}
use Rattle.kinds.specs.declared.Kind.{Kind}
use Rattle.kinds.specs.declared.Kind.TheVariants.{Challenges, Bits}
use Rattle.kinds.specs.Kinds.{within, alone, table}
use Rattle.packed_bits.specs.PackedBits.{bit_at, Bytes}
use Rattle.packed_bits.specs.Clearing.{packed_size, cleared}
use Rattle.writers.specs.Values.{values_of}
use Rattle.frames.specs.Reading.{rest_of, reading}
use Rattle.writers.specs.Writing.{frame}
use Rattle.readers.specs.Choosing.{choice_size, choices_check}
use Rattle.frames.proofs.Facts.{within-told}
use Rattle.packed_bits.proofs.Clearing.{length-cleared, cleared_keeps, cleared-clear}
use Rattle.readers.proofs.Passing.{residues-pass, Chosen, choices-pass}
use Rattle.writers.proofs.Spelling.{frame-spells, written_read}
use Rattle.writers.proofs.Writing.{Plain}
use Rattle.random.specs.Sequences.{made, and_then, some_below, byte_limit, draw_residues, one_below, many_times}
use Rattle.draw_rules.specs.Making.{draw_challenges, draw_bits, draw_choice, draw_choices}
use Rattle.random.proofs.Sequences.{Always, Stretches, times-each, one_got, some_below_lem}
use Rattle.draw_rules.proofs.Making.{choice_chosen}

-- ---- residues and permutations

pub residues-drawn : (n : ℕ) (random : List ℕ) (at : ℕ) (l : List ℕ) (next : ℕ) → draw_residues n random at ≡ drew l next
    → (length l ≡ n) × Residues modulus l
residues-drawn n random at l next e = subst (Always (λ (l : List ℕ). (length l ≡ n) × Residues modulus l)) e (some_below_lem modulus random n at)

pub permutation-drawn : (n : ℕ) (random : List ℕ) (at : ℕ) (l : List ℕ) (next : ℕ) → 0 < n → draw_permutation n random at ≡ drew l next → IsPerm n l
permutation-drawn n random at l next pos e = subst (Permutes n) e (drawn-perm n random at pos)

-- ---- frames

-- what was drawn of which s was made
pub record Source (f : List ℕ → List ℕ) (d : Drawing) (s : List ℕ) (next : ℕ) : Type 0 where
  pub list : List ℕ
  pub drawn : d ≡ drew list next
  pub same : s ≡ f list

pub source : (f : List ℕ → List ℕ) (d : Drawing) (s : List ℕ) (next : ℕ) → made f d ≡ drew s next → Source f d s next
source f (drew l p) s next e = let q : p ≡ next = cc in let r : s ≡ f l = cc in record { list = l; drawn = ap (drew l) q; same = r }
source f ran_out s next e = let z : ◌≡◌ {A = ℕ} 0 1 = cc in absurd (omega arith)

-- a frame of one number that its reader accepts, and what it holds
pub record Accepted (k : Kind) (number : ℕ) (rest s : List ℕ) : Type 0 where
  pub accepts : reading k alone s ≡ done (number ∷ 0 ∷ (table k).start ∷ [])
  pub holds : rest_of k s ≡ rest

pub accepted : (k : Kind) (number : ℕ) (rest : List ℕ) → Plain k number 0 rest → Accepted k number rest (frame k number 0 rest)
accepted k number rest p = record { accepts = written_read k number 0 rest p; holds = (frame-spells k number 0 rest p.numbers).tail }

-- challenges are read as the residues drawn
pub record ChallengesDrawn (N : ℕ) (random s : List ℕ) (next : ℕ) : Type 0 where
  pub challenges : List ℕ
  pub drawn : draw_residues N random 0 ≡ drew challenges next
  pub frame : Accepted Challenges N challenges s

pub challenges-drawn : (N : ℕ) (random s : List ℕ) (next : ℕ) → within alone.rounds N ≡ true → draw_challenges N random ≡ drew s next
    → ChallengesDrawn N random s next
unfolding draw_challenges
challenges-drawn N random s next t e =
    let q = source (frame Challenges N 0) (draw_residues N random 0) s next e in
    let r = residues-drawn N random 0 q.list next q.drawn in
    record {
      challenges = q.list;
      drawn = q.drawn;
      frame = subst (Accepted Challenges N q.list) (sym q.same)
          (accepted Challenges N q.list
          (record { numbers = rw t; size = r.0; content = ([], residues-pass _ 0 q.list r.1); spare = refl }));
    }

-- bits are read as the first N bits of the bytes drawn, highest first
pub record BitsDrawn (N : ℕ) (random s : List ℕ) (next : ℕ) : Type 0 where
  pub bytes : List ℕ
  pub drawn : some_below byte_limit (packed_size N) random 0 ≡ drew bytes next
  pub frame : Accepted Bits N (cleared N bytes) s
  pub bits : values_of Bits N 0 (rest_of Bits s) ≡ tab N (λ (k : ℕ). cond (bit_at bytes k) 1 0) ∷ []

pub bits-drawn : (N : ℕ) (random s : List ℕ) (next : ℕ) → within alone.rounds N ≡ true → draw_bits N random ≡ drew s next → BitsDrawn N random s next
unfolding draw_bits
bits-drawn N random s next t e =
    let q = source (λ (l : List ℕ). frame Bits N 0 (cleared N l)) (some_below byte_limit (packed_size N) random 0) s next e in
    let l = q.list in
    let z = (subst (Always (λ (l : List ℕ). (length l ≡ packed_size N) × Residues byte_limit l)) q.drawn (some_below_lem byte_limit random (packed_size N) 0)).0 in
    let w = within-told alone.rounds N t in
    let a =
    accepted Bits N (cleared N l)
    (record { numbers = rw t; size = length-cleared N l ∙ z; content = ([], refl); spare = cleared-clear N l w.0 z }) in
    let f = subst (Accepted Bits N (cleared N l)) (sym q.same) a in
    record {
      bytes = l;
      drawn = q.drawn;
      frame = f;
      bits = ap (λ (r : List ℕ). tab N (λ (k : ℕ). cond (bit_at r k) 1 0) ∷ []) f.holds
          ∙ ap (λ (r : List ℕ). r ∷ [])
          (tab_of N _ _ (length-tab N _) (λ k i. get_or-tab N _ k i ∙ ap (λ (b : Bool). cond b 1 0) (sym (cleared_keeps N l w.0 z k i))));
    }

-- bytes are never skipped: the first n are drawn as they come
pub bytes-drawn : (random : List ℕ) → Bytes random → (n : ℕ) → n ≤ length random → some_below byte_limit n random 0 ≡ drew (take n random) n
unfolding many_times
bytes-drawn random b zero h = refl
bytes-drawn random b (suc n) h =
    ap (λ (d : Drawing). and_then d (one_below byte_limit random)) (bytes-drawn random b n (omega arith))
    ∙ ap (made (λ (m : List ℕ). take n random ++ m)) (one_got byte_limit random n _ _ (sym (drawn-at byte_limit random n h (b n))))
    ∙ rw (add-one, ← take-suc random n 0 h)

-- ---- choices pass their check

pub choices-drawn : (n N : ℕ) (random l : List ℕ) (next : ℕ) → 0 < n → draw_choices n N random ≡ drew l next → choices_check n N l ≡ fine
unfolding draw_choices
choices-drawn n N random l next pos e =
    let s = subst (Always (Stretches (Chosen n) (choice_size n) N)) e (times-each (Chosen n) (choice_size n) (draw_choice n random) (choice_chosen n random pos) N 0) in
    choices-pass n N l s.len s.each
