-- Laws of drawings one after the other: one more of them, and that the whole runs out where one does.
use mathlib.Core.Path.{◌≡◌, refl, sym, ap, ◌∙◌, subst}
use mathlib.Core.List.{List, [], ◌∷◌, ◌++◌}
use Prim.Native.Nat.{ℕ, zero, suc, ◌+◌, ◌-◌, ◌*◌, ◌≤◌, ◌<◌}
use native.Mathlib.Nat.{not-suc-le-zero, zero-mul, suc-mul, mul-one}
use native.Mathlib.Numerals.{add-one}
use native.Mathlib.Decide.{ℕ_discrete}
use native.Mathlib.Omega.{arith}
use lib.ListN.{length, get_or, take, drop, length-append, length-drop}
use lib.Seq.{get_or-take, get_or-drop, take_all, take-append-le, drop-append-le, drop_at}
use Rattle.std.specs.Prelude.{Option, Some, None, IsSome}
use borrow.Rule.Slice.PartMut.{put_mid, mid_of}
use Rattle.algebra.specs.Lists.{stretch, over, over_at}
use Rattle.algebra.specs.Residues.{Residues}
use Rattle.random.specs.Drawings.{draw_below, Drawing, drew, ran_out, with, used_by, drawn_over, Enough}
use Rattle.algebra.proofs.Lists.{front, part_stretch, stretch-fits, part_over, over-behind}
use Rattle.random.proofs.Drawings.{over-taken}
use Rattle.random.proofs.Fair.{drawn-below}
use Rattle.random.specs.Sequences.{made, and_then, many_times, one_below, some_below}

-- ---- what a place used says of the drawing

pub drew_of : (d : Drawing) (p : ℕ) → Some p ≡ used_by d → (l : List ℕ) × (d ≡ drew l p)
drew_of (drew l at) p e = let q : at ≡ p = cc in (l, ap (drew l) q)
drew_of ran_out p e = let z : ◌≡◌ {A = ℕ} 0 1 = cc in absurd (omega arith)

pub ran_out_of : (d : Drawing) → None ≡ used_by d → d ≡ ran_out
ran_out_of (drew l at) e = let z : ◌≡◌ {A = ℕ} 0 1 = cc in absurd (omega arith)
ran_out_of ran_out e = refl

-- ---- what is made of a list takes the same bytes

pub made_used : (f : List ℕ → List ℕ) (d : Drawing) → used_by (made f d) ≡ used_by d
made_used f (drew l at) = refl
made_used f ran_out = refl

-- ---- a drawing and then another

pub then_used : (d : Drawing) (next : ℕ → Drawing) (p : ℕ) → Some p ≡ used_by d → used_by (next p) ≡ used_by (and_then d next)
then_used d next p e =
    let q = drew_of d p e in
    sym (ap (λ (z : Drawing). used_by (and_then z next)) q.1 ∙ made_used (λ (m : List ℕ). q.0 ++ m) (next p))

-- both are drawn
pub then_drew : (d : Drawing) (next : ℕ → Drawing) {l m : List ℕ} {p q : ℕ} → d ≡ drew l p → next p ≡ drew m q → and_then d next ≡ drew (l ++ m) q
then_drew d next {l} e f = ap (λ (z : Drawing). and_then z next) e ∙ ap (made (λ (m : List ℕ). l ++ m)) f

pub then_short : (d : Drawing) (next : ℕ → Drawing) → None ≡ used_by d → None ≡ used_by (and_then d next)
then_short d next e = sym (ap (λ (z : Drawing). used_by (and_then z next)) (ran_out_of d e))

-- where both have enough, each has
pub enough-first : (d : Drawing) (next : ℕ → Drawing) → Enough (and_then d next) → Enough d
enough-first (drew l p) next h = tt
enough-first ran_out next h = absurd h

pub enough-made : (f : List ℕ → List ℕ) (d : Drawing) → Enough (made f d) → Enough d
enough-made f (drew l p) h = tt
enough-made f ran_out h = absurd h

pub enough_next : (d : Drawing) (next : ℕ → Drawing) (p : ℕ) → Enough (and_then d next) → Some p ≡ used_by d → Enough (next p)
enough_next d next p h e =
    let q = drew_of d p e in
    enough-made (λ (m : List ℕ). q.0 ++ m) (next p) (subst (λ (z : Drawing). Enough (and_then z next)) q.1 h)

-- a list written over the front, and then another over a lent part behind it
pub behind : (l m d out part : List ℕ) (a k : ℕ) → length l ≡ a → out ≡ over l d → part ≡ over m (mid_of a k out) → length m ≤ k → a + k ≤ length out
    → put_mid a k out part ≡ over (l ++ m) d
behind l m d out part a k e f g h r =
    ap (put_mid a k out) g ∙ part_over m out a k h r ∙ ap (over_at m a) f ∙ over-behind l m d a e

-- ---- n times the same: j of them drawn so far

module _ (next : ℕ → Drawing) (at : ℕ) where
  pub times_none : many_times 0 next at ≡ drew [] at
  unfolding many_times
  times_none = refl

  pub times_more : (j : ℕ) → many_times (j + 1) next at ≡ and_then (many_times j next at) next
  unfolding many_times
  times_more j = ap (λ (k : ℕ). many_times k next at) (add-one j)

  -- what ran out stays so
  times-short : (n j : ℕ) → j ≤ n → many_times j next at ≡ ran_out → many_times n next at ≡ ran_out
  unfolding many_times
  times-short zero j l e = let z : j ≡ 0 = omega arith in ap (λ (k : ℕ). many_times k next at) (sym z) ∙ e
  times-short (suc n) j l e = step (ℕ_discrete j (suc n)) (λ h. times-short n j h e)
    where
      step : Dec (j ≡ suc n) → (j ≤ n → many_times n next at ≡ ran_out) → many_times (suc n) next at ≡ ran_out
      step (yes q) ih = ap (λ (k : ℕ). many_times k next at) (sym q) ∙ e
      step (no q) ih = ap (λ (d : Drawing). and_then d next) (ih (omega arith))

  -- one runs out, and so the whole does
  pub times_ends : (n j p : ℕ) → j < n → Some p ≡ used_by (many_times j next at) → None ≡ used_by (next p) → many_times n next at ≡ ran_out
  times_ends n j p l e f =
      times-short n (j + 1) (omega arith)
      (ran_out_of (many_times (j + 1) next at) (f ∙ then_used (many_times j next at) next p e ∙ ap used_by (sym (times_more j))))

  -- a loop that measures
  pub measured_more : (j p q : ℕ) → Some p ≡ used_by (many_times j next at) → Some q ≡ used_by (next p) → Some q ≡ used_by (many_times (j + 1) next at)
  measured_more j p q e f = f ∙ then_used (many_times j next at) next p e ∙ ap used_by (sym (times_more j))

-- ---- a loop that writes: j are over the front of d

pub record Written (next : ℕ → Drawing) (at : ℕ) (d out : List ℕ) (j p : ℕ) : Type 0 where
  pub list : List ℕ
  pub drawn : many_times j next at ≡ drew list p
  pub size : length out ≡ length d
  pub now : out ≡ over list d

pub written_none : (next : ℕ → Drawing) (at : ℕ) (d : List ℕ) → Written next at d d 0 at
unfolding over
written_none next at d = record { list = []; drawn = times_none next at; size = refl; now = refl }

module _ (next : ℕ → Drawing) (at : ℕ) (d out : List ℕ) (j p : ℕ) (w : Written next at d out j p) where
  pub written_more : (l : List ℕ) (q : ℕ) (after : List ℕ) → next p ≡ drew l q → length after ≡ length out → after ≡ over (w.list ++ l) d
      → Written next at d after (j + 1) q
  written_more l q after e s n =
      record {
        list = w.list ++ l;
        drawn = times_more next at j ∙ ap (λ (z : Drawing). and_then z next) w.drawn ∙ ap (made (λ (m : List ℕ). w.list ++ m)) e;
        size = s ∙ w.size;
        now = n;
      }

  -- where the whole has enough, so has the next
  pub written_enough : (n : ℕ) → j < n → Enough (many_times n next at) → Enough (next p)
  written_enough n l h = step (next p) refl
    where
      step : (m : Drawing) → next p ≡ m → Enough m
      step (drew x q) e = tt
      step ran_out e = absurd (subst Enough (times_ends next at n j p l (sym (ap used_by w.drawn)) (sym (ap used_by e))) h)

  pub written_all : (n : ℕ) → j ≡ n → (Some p ≡ used_by (many_times n next at)) × (out ≡ drawn_over (many_times n next at) d)
  written_all n e =
      let q : many_times n next at ≡ drew w.list p = ap (λ (k : ℕ). many_times k next at) (sym e) ∙ w.drawn in
      (sym (ap used_by q), w.now ∙ sym (ap (λ (z : Drawing). drawn_over z d) q))

-- over a lent front, whose rest stands behind it
module _ (next : ℕ → Drawing) (at : ℕ) (d out : List ℕ) (j n p : ℕ) (w : Written next at (take n d) out j p) where
  pub written_front : j ≡ n → length w.list ≡ n → n ≤ length d
      → (Some p ≡ used_by (many_times n next at)) × (out ++ drop n d ≡ drawn_over (many_times n next at) d)
  written_front e s h =
      let q : many_times n next at ≡ drew w.list p = ap (λ (k : ℕ). many_times k next at) (sym e) ∙ w.drawn in (
        sym (ap used_by q),
        ap (λ (z : List ℕ). z ++ drop n d) w.now ∙ over-taken w.list d n s h ∙ sym (ap (λ (z : Drawing). drawn_over z d) q),
      )

-- ---- what holds of each list drawn

-- of the list, where the bytes suffice
abbrev pub Always : (List ℕ → Type 0) → Drawing → Type 0
Always P (drew list at) = P list
Always P ran_out = Unit {0}

-- n stretches of one size, and what holds of each
pub record Stretches (P : List ℕ → Type 0) (size n : ℕ) (l : List ℕ) : Type 0 where
  pub len : length l ≡ n * size
  pub each : (k : ℕ) → k < n → P (stretch size k l)

-- a stretch, as take and drop cut it
pub stretch-cut : (size k : ℕ) (l : List ℕ) → stretch size k l ≡ take size (drop (k * size) l)
stretch-cut size k l = let e : k * size + size - k * size ≡ size = omega arith in sym (part_stretch size k l) ∙ ap (λ (z : ℕ). take z (drop (k * size) l)) e

module _ (P : List ℕ → Type 0) (size : ℕ) where
  -- one more stretch
  stretches-more : (n : ℕ) (l m : List ℕ) → Stretches P size n l → length m ≡ size → P m → Stretches P size (suc n) (l ++ m)
  stretches-more n l m s e h =
      record {
        len = length-append l m ∙ (let a = s.len in let b = suc-mul n size in omega arith);
        each = λ k i. at k i (ℕ_discrete k n);
      }
    where
      at : (k : ℕ) → k < suc n → Dec (k ≡ n) → P (stretch size k (l ++ m))
      at k i (yes q) =
          let c : stretch size k (l ++ m) ≡ m =
          stretch-cut size k (l ++ m) ∙ ap (take size) (drop_at l m (k * size) (s.len ∙ ap (λ (z : ℕ). z * size) (sym q))) ∙ take_all size m (omega arith) in
          rw c h
      at k i (no f) =
          let b = s.len in
          let g : k * size + size ≤ n * size = stretch-fits size k n (omega arith) in
          let c : stretch size k (l ++ m) ≡ stretch size k l =
          stretch-cut size k (l ++ m) ∙ ap (take size) (drop-append-le (k * size) l m (omega arith))
          ∙ take-append-le size (drop (k * size) l) m (simp length-drop (omega arith)) ∙ sym (stretch-cut size k l) in
          rw c (s.each k (omega arith))

  pub times-each : (next : ℕ → Drawing) → ((p : ℕ) → Always (λ (l : List ℕ). (length l ≡ size) × P l) (next p)) → (n at : ℕ)
      → Always (Stretches P size n) (many_times n next at)
  unfolding many_times
  times-each next h zero at = record { len = sym (zero-mul size); each = λ k i. absurd (not-suc-le-zero i) }
  times-each next h (suc n) at = step (many_times n next at) (times-each next h n at)
    where
      join : (l : List ℕ) (m : Drawing) → Stretches P size n l → Always (λ (z : List ℕ). (length z ≡ size) × P z) m
          → Always (Stretches P size (suc n)) (made (λ (z : List ℕ). l ++ z) m)
      join l (drew z q) s (e, i) = stretches-more n l z s e i
      join l ran_out s i = tt

      step : (d : Drawing) → Always (Stretches P size n) d → Always (Stretches P size (suc n)) (and_then d next)
      step (drew l p) s = join l (next p) s (h p)
      step ran_out s = tt

-- of the list written so far
pub written_each : (P : List ℕ → Type 0) (size : ℕ) (next : ℕ → Drawing) → ((p : ℕ) → Always (λ (l : List ℕ). (length l ≡ size) × P l) (next p))
    → (at : ℕ) (d out : List ℕ) (j p : ℕ) (w : Written next at d out j p) → Stretches P size j w.list
written_each P size next h at d out j p w = subst (Always (Stretches P size j)) w.drawn (times-each P size next h j at)

-- ---- a byte below the limit

module _ (limit : ℕ) (random : List ℕ) (p : ℕ) where
  pub one_got : (x q : ℕ) → Some (x, q) ≡ draw_below limit random p → one_below limit random p ≡ drew (x ∷ []) q
  unfolding one_below
  one_got x q e = rw (← e)

  pub one_short : None ≡ draw_below limit random p → one_below limit random p ≡ ran_out
  unfolding one_below
  one_short e = rw (← e)

  -- where there is one, there is its byte
  pub one_enough : Enough (one_below limit random p) → IsSome (draw_below limit random p)
  unfolding one_below
  one_enough = step (draw_below limit random p)
    where
      step : (d : Option (ℕ × ℕ)) → Enough (with d (λ (x next : ℕ). drew (x ∷ []) next)) → IsSome d
      step (Some drawn) h = refl
      step None h = absurd h

  one_below_lem : Always (λ (l : List ℕ). (length l ≡ 1) × (get_or l 0 0 < limit)) (one_below limit random p)
  unfolding one_below
  one_below_lem = step (draw_below limit random p) (drawn-below limit random p)
    where
      step : (d : Option (ℕ × ℕ)) → ((x q : ℕ) → Some (x, q) ≡ d → x < limit)
          → Always (λ (l : List ℕ). (length l ≡ 1) × (get_or l 0 0 < limit)) (with d (λ (x next : ℕ). drew (x ∷ []) next))
      step (Some (x, next)) h = (refl, h x next refl)
      step None h = tt

-- n of them are n long, and each is below the limit
module _ (limit : ℕ) (random : List ℕ) where
  abbrev small : List ℕ → Type 0
  small l = get_or l 0 0 < limit

  pub some_below_lem : (n at : ℕ) → Always (λ (l : List ℕ). (length l ≡ n) × Residues limit l) (some_below limit n random at)
  some_below_lem n at = turn (some_below limit n random at) (times-each small 1 (one_below limit random) (one_below_lem limit random) n at)
    where
      turn : (d : Drawing) → Always (Stretches small 1 n) d → Always (λ (l : List ℕ). (length l ≡ n) × Residues limit l) d
      turn (drew l q) s = (
        s.len ∙ mul-one n,
        λ j i.
            let e : get_or (stretch 1 j l) 0 0 ≡ get_or l j 0 =
            ap (λ (z : List ℕ). get_or z 0 0) (stretch-cut 1 j l) ∙ get_or-take 1 (drop (j * 1) l) 0 0 (omega arith) ∙ get_or-drop (j * 1) l 0 0
            ∙ ap (λ (k : ℕ). get_or l k 0) (omega arith) in
            let m = s.len in
            rw e at (s.each j (omega arith)),
      )
      turn ran_out s = tt

  pub written_bytes : (at : ℕ) (d out : List ℕ) (j p : ℕ) (w : Written (one_below limit random) at d out j p) → length w.list ≡ j
  written_bytes at d out j p w = (subst (Always (λ (l : List ℕ). (length l ≡ j) × Residues limit l)) w.drawn (some_below_lem j at)).0

  -- and they are the front of the room that they are drawn into
  pub drawn_front : (n at p : ℕ) (l room out : List ℕ) → some_below limit n random at ≡ drew l p → out ≡ drawn_over (some_below limit n random at) room
      → (length l ≡ n) × (take n out ≡ l)
  drawn_front n at p l room out e w =
      let s = (subst (Always (λ (z : List ℕ). (length z ≡ n) × Residues limit z)) e (some_below_lem n at)).0 in
      (s, front l room out n s (w ∙ ap (λ (d : Drawing). drawn_over d room) e))
