-- `check_keys` meets its contract: the chain, as the code goes through it.
use mathlib.Core.Path.{◌≡◌, sym, ap, ◌∙◌}
use mathlib.Core.List.{List}
use Prim.Native.Nat.{ℕ, ◌≤◌}
use native.Mathlib.Omega.{arith}
use lib.ListN.{get_or}
use Rattle.algebra.specs.Permutations.{longest}
use Rattle.refusals.specs.Told.{means}
use Rattle.refusals.proofs.Chain.{handed_on}
use Rattle.kinds.specs.Kinds.{alone, of_places}
use Rattle.kinds.specs.declared.Kind.TheVariants.{System, Public, Secret}
use Rattle.frames.specs.Reading.{first_of, read_means, Reads}
use Rattle.frames.proofs.Facts.{reading-told, frame-fits}
use Rattle.readers.proofs.Passing.{system-fits}
use Rattle.card_rules.proofs.Orders.{bad-public, bad-secret, bad_system, good-keys}
use Rattle.card_rules.specs.Parts.{as_keys}
use Rattle.card_checks.proofs.key.check_keys.Goals as goal
use Rattle.card_checks.proofs.key.check_keys.Goals.{In_ok-n, After-read_frame, After-read_frame-2}

-- n is the system's, and at most 64
places : (c : In_ok-n) → c.in_ok-n.field-0.first ≡ first_of c.args.keys.now.system.now
places c = sym (ap (λ (l : List ℕ). get_or l 0 0) (reading-told System alone _ _ (sym c.read.ensures.says ∙ ap read_means c.in_ok-n.was)).1)

most : (c : In_ok-n) → c.in_ok-n.field-0.first ≤ longest
most c = let m = (system-fits _ (frame-fits System alone _ _ _ c.read.ensures c.in_ok-n.was)).most in rw (places c) m

-- what was read of the public key and of the secret key
public_read : (c : After-read_frame) → c.in_ok-n.field-0.first ≡ first_of c.args.keys.now.system.now → Reads Public (of_places (first_of c.args.keys.now.system.now)) c.args.keys.now.public.now c.read_frame.result
public_read c n = rw (c.of_places.ensures, n) at c.read_frame.ensures

secret_read : (c : After-read_frame-2) → c.in_ok-n.field-0.first ≡ first_of c.args.keys.now.system.now → Reads Secret (of_places (first_of c.args.keys.now.system.now)) c.args.keys.now.secret.now c.read_frame-2.result
secret_read c n = rw (c.of_places-2.ensures, n) at c.read_frame-2.ensures

pub returns-in_err-n : goal.returns-in_err-n
returns-in_err-n c = let g = c.args in
    ap means (handed_on c.from_residual.ensures)
    ∙ bad_system (as_keys g.keys.now) _ c.read.ensures _ c.in_err-n.was

pub read_frame-requires : goal.read_frame-requires
read_frame-requires c = rw c.of_places.ensures (record { places = most (goal.at.read_frame-requires c).In_ok-n; rounds = omega arith })

pub returns-in_err-read_frame : goal.returns-in_err-read_frame
returns-in_err-read_frame c = let g = c.args in
    let q = goal.at.returns-in_err-read_frame c in
    ap means (handed_on c.from_residual-in_err-read_frame.ensures)
    ∙ bad-public (as_keys g.keys.now) _ c.read.ensures _ c.in_ok-n.was _ (public_read q.After-read_frame (places q.In_ok-n)) _ c.in_err-read_frame.was

pub read_frame-requires-2 : goal.read_frame-requires-2
read_frame-requires-2 c = rw c.of_places-2.ensures (record { places = most (goal.at.read_frame-requires-2 c).In_ok-n; rounds = omega arith })

pub returns-in_err-read_frame-2 : goal.returns-in_err-read_frame-2
returns-in_err-read_frame-2 c = let g = c.args in
    let q = goal.at.returns-in_err-read_frame-2 c in
    ap means (handed_on c.from_residual-in_err-read_frame-2.ensures)
    ∙ bad-secret (as_keys g.keys.now) _ c.read.ensures _ c.in_ok-n.was _ (public_read q.After-read_frame (places q.In_ok-n)) _ c.in_ok-read_frame.was _ (secret_read q.After-read_frame-2 (places q.In_ok-n)) _ c.in_err-read_frame-2.was

pub returns : goal.returns
returns c = let g = c.args in
    let q = goal.at.returns c in
    good-keys (as_keys g.keys.now) _ c.read.ensures _ c.in_ok-n.was _ (public_read q.After-read_frame (places q.In_ok-n)) _ c.in_ok-read_frame.was _ (secret_read q.After-read_frame-2 (places q.In_ok-n)) _ c.in_ok-read_frame-2.was
