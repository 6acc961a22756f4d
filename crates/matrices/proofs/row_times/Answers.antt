-- `row_times` meets its contract: after j turns the sum is that of the first j products, and at most 65,025 for each of them.
use mathlib.Core.Path.{◌≡◌, refl, ap, ap₂, ◌∙◌}
use Prim.Native.Nat.{ℕ, ◌+◌, ◌*◌, ◌%◌}
use native.Mathlib.Omega.{arith}
use Rattle.std.proofs.lemmas.List.{length_push}
use Rattle.std.proofs.lemmas.Slice.Zip.{zip_turn, zip_end}
use lib.ListN.{length, get_or}
use Rattle.algebra.specs.Lists.{sum_below}
use Rattle.matrices.specs.Matrices.{row_times}
use Rattle.algebra.specs.Residues.{modulus}
use Rattle.algebra.proofs.Sums.{sum_next, byte_mul}
use Rattle.matrices.proofs.row_times.Goals as goal

pub loop-a-init : goal.loop-a-init
unfolding sum_below
loop-a-init c = record { so_far = refl; small = omega arith }

pub loop-a-preserved : goal.loop-a-preserved
loop-a-preserved c =
    let row = c.args.row.now in
    let x = c.args.x.now in
    let l = c.loop-a in
    let j = length l.yielded in
    let t = zip_turn row x l.yielded c.into_iter-a-iterator.result l.a-iterator c.next.new.self c.next.result (cc) (cc) l.yielded_by _ c.in-Some.is c.next.ensures.steps in
    let product : c.from.result * c.from-in-loop-a.result ≡ get_or row j 0 * get_or x j 0 =
    ap₂ ◌*◌ (c.from.ensures ∙ t.2 0) (c.from-in-loop-a.ensures ∙ t.3 0) in
    let more = sum_next j (λ (k : ℕ). get_or row k 0 * get_or x k 0) in
    let most = byte_mul _ _ (c.type_inv.row j).fits (c.type_inv.x j).fits in
    record { so_far = rw length_push (omega arith); small = rw length_push (omega arith) }

pub returns : goal.returns
unfolding row_times
returns c =
    let row = c.args.row.now in
    let x = c.args.x.now in
    let l = c.loop-a in
    let t = zip_end row x l.yielded c.into_iter-a-iterator.result l.a-iterator c.next.new.self c.next.result (cc) (cc) l.yielded_by c.in-None.is c.next.ensures.steps in
    let e : length l.yielded ≡ length row = omega arith in
    ap₂ (λ (s y : ℕ). (s + y) % modulus)
    (l.invariant.so_far ∙ ap (λ (n : ℕ). sum_below n (λ (k : ℕ). get_or row k 0 * get_or x k 0)) e)
    c.from-sum.ensures
