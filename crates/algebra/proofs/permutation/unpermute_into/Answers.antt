-- `unpermute_into` meets its contract: after j turns what was written at σ[i] is W[i], for i below j, and no place at n or above was touched.
use mathlib.Core.Path.{◌≡◌, ◌∙◌}
use Prim.Native.Nat.{ℕ, ◌<◌}
use native.Mathlib.Omega.{arith}
use lib.ListN.{length, get_or}
use Rattle.std.proofs.lemmas.List.{length_push}
use Rattle.std.proofs.lemmas.Slice.Zip.{zip_turn, zip_end}
use Rattle.algebra.proofs.Permutations.{below, laid_more, laid-all}
use Rattle.algebra.proofs.permutation.unpermute_into.Goals as goal
use Rattle.algebra.proofs.permutation.unpermute_into.Goals.{After-from}

-- turn j writes W[j] at σ[j]
record Turn (c : After-from) (j : ℕ) : Type 0 where
  lo : j < length c.args.sigma.now
  k : c.from.result ≡ get_or c.args.sigma.now j 0
  x : c.in-Some.x.now ≡ get_or c.args.w.now j 0

turn : (c : After-from) → Turn c (length c.loop-k.yielded)
turn c =
    let t = zip_turn c.args.sigma.now c.args.w.now c.loop-k.yielded c.into_iter-k-iterator.result c.loop-k.k-iterator c.next.new.self c.next.result (cc) (cc) c.loop-k.yielded_by _ c.in-Some.is c.next.ensures.steps in
    record { lo = t.0; k = c.from.ensures ∙ t.2 0; x = t.3 0 }

pub bounds-out-from : goal.bounds-out-from
bounds-out-from c = let t = turn c in
    let b = below _ c.args.sigma.now c.requires.0 _ t.lo in
    omega arith

pub loop-k-preserved : goal.loop-k-preserved
loop-k-preserved c = let t = turn c in
    let more = laid_more _ _ _ _ c.requires.0 (omega arith) _ c.loop-k.invariant t.lo in
    rw (length_push, t.k, t.x) more

pub returns : goal.returns
returns c =
    let t = zip_end c.args.sigma.now c.args.w.now c.loop-k.yielded c.into_iter-k-iterator.result c.loop-k.k-iterator c.next.new.self c.next.result (cc) (cc) c.loop-k.yielded_by c.in-None.is c.next.ensures.steps in
    laid-all _ _ _ _ c.requires.0 (omega arith) _ c.loop-k.invariant (omega arith) (omega arith)
