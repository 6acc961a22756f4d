-- `check_open` meets its contract: the chain, as the code goes through it.
use mathlib.Core.Path.{◌≡◌, sym, ap, ◌∙◌}
use mathlib.Core.List.{[]}
use Prim.Native.Nat.{◌≤◌}
use native.Mathlib.Omega.{arith}
use lib.Dec.{eqb}
use Rattle.refusals.specs.Buffer.{NONE}
use Rattle.refusals.specs.Number.{STAGE}
use Rattle.refusals.specs.Told.{means}
use Rattle.refusals.proofs.Chain.{goes_on, stops, handed_on, demand_done}
use Rattle.kinds.specs.Kinds.{exactly}
use Rattle.kinds.specs.declared.Kind.TheVariants.{Bits}
use Rattle.frames.specs.Reading.{Reads}
use Rattle.frames.proofs.Orders.{frame_goes_on, frame-stops}
use Rattle.card_rules.specs.Stages.{ANSWERED}
use Rattle.card_rules.specs.Parts.{as_keys}
use Rattle.card_rules.specs.Keys.{places_of, rows_of}
use Rattle.card_rules.specs.Lent.{KeysFit}
use Rattle.card_rules.specs.Asking.{staged, record_fits, kept_fit}
use Rattle.card_rules.proofs.Facts.{keys-told}
use Rattle.card_rules.proofs.Records.{record_told}
use Rattle.card_rules.proofs.Orders.{open_in_order}
use Rattle.card_checks.proofs.order.check_open.Goals as goal
use Rattle.card_checks.proofs.order.check_open.Goals.{After-staged, In_ok-check_keys, After-staged-2, In_ok-staged-2, After-staged-3, After-read_frame}

-- past the frames
keys_fine : (c : In_ok-check_keys) → KeysFit (as_keys c.args.keys.now)
keys_fine c = keys-told _ [] (sym c.check_keys.ensures ∙ ap means c.in_ok-check_keys.was)

-- the links, by what they are to mean
stage : (c : After-staged) → means c.staged.result ≡ staged (eqb c.args.session.stage ANSWERED)
stage c = c.staged.ensures

fitting : (c : After-staged-2) → means c.staged-2.result ≡ staged (record_fits c.args.session (places_of (as_keys c.args.keys.now)) (rows_of (as_keys c.args.keys.now)))
fitting c = rw (c.record_fits.ensures, c.matrix-a.ensures.places, c.matrix-a.ensures.rows) at c.staged-2.ensures

kept : (c : After-staged-3) → means c.staged-3.result ≡ staged (kept_fit c.args.session.rounds c.args.session.challenges)
kept c = rw c.kept_fit.ensures at c.staged-3.ensures

sent : (c : After-read_frame) → Reads Bits (exactly (places_of (as_keys c.args.keys.now)) c.args.session.rounds) c.args.message.now c.read_frame.result
sent c = rw (c.exactly.ensures, c.matrix-a.ensures.places, c.from-rounds.ensures) at c.read_frame.ensures

-- N is at most 64
rounds_fit : (c : In_ok-staged-2) → c.args.session.rounds ≤ 64
rounds_fit c = (record_told c.args.session c.matrix-a.result.n c.matrix-a.result.m (rw c.record_fits.ensures at (demand_done _ STAGE NONE 0 [] (sym c.staged-2.ensures ∙ ap means c.in_ok-staged-2.was)))).3

pub returns-in_err-staged : goal.returns-in_err-staged
returns-in_err-staged c =
    ap means (handed_on c.from_residual.ensures) ∙ stops _ (stage (goal.at.returns-in_err-staged c).After-staged) c.in_err-staged.was ∙ sym (open_in_order _ _ _ _ _)

pub returns-in_err-check_keys : goal.returns-in_err-check_keys
returns-in_err-check_keys c =
    ap means (handed_on c.from_residual-in_err-check_keys.ensures)
    ∙ goes_on (stage (goal.at.returns-in_err-check_keys c).After-staged) c.in_ok-staged.was
    (stops _ c.check_keys.ensures c.in_err-check_keys.was) ∙ sym (open_in_order _ _ _ _ _)

pub matrix-a-requires : goal.matrix-a-requires
matrix-a-requires c = keys_fine (goal.at.matrix-a-requires c).In_ok-check_keys

pub returns-in_err-staged-2 : goal.returns-in_err-staged-2
returns-in_err-staged-2 c = let q = goal.at.returns-in_err-staged-2 c in
    ap means (handed_on c.from_residual-in_err-staged-2.ensures)
    ∙ goes_on (stage q.After-staged) c.in_ok-staged.was
    (goes_on c.check_keys.ensures c.in_ok-check_keys.was
    (stops _ (fitting q.After-staged-2) c.in_err-staged-2.was)) ∙ sym (open_in_order _ _ _ _ _)

pub kept_fit-requires : goal.kept_fit-requires
kept_fit-requires c = rounds_fit (goal.at.kept_fit-requires c).In_ok-staged-2

pub returns-in_err-staged-3 : goal.returns-in_err-staged-3
returns-in_err-staged-3 c = let q = goal.at.returns-in_err-staged-3 c in
    ap means (handed_on c.from_residual-in_err-staged-3.ensures)
    ∙ goes_on (stage q.After-staged) c.in_ok-staged.was
    (goes_on c.check_keys.ensures c.in_ok-check_keys.was
    (goes_on (fitting q.After-staged-2) c.in_ok-staged-2.was
    (stops _ (kept q.After-staged-3) c.in_err-staged-3.was))) ∙ sym (open_in_order _ _ _ _ _)

pub read_frame-requires : goal.read_frame-requires
read_frame-requires c = let q = goal.at.read_frame-requires c in
    let n = (keys_fine q.In_ok-check_keys).system.most in
    let r = rounds_fit q.In_ok-staged-2 in
    rw (c.exactly.ensures, c.matrix-a.ensures.places, c.from-rounds.ensures) (record { places = n; rounds = r })

pub returns-in_err-read_frame : goal.returns-in_err-read_frame
returns-in_err-read_frame c = let q = goal.at.returns-in_err-read_frame c in
    ap means (handed_on c.from_residual-in_err-read_frame.ensures)
    ∙ goes_on (stage q.After-staged) c.in_ok-staged.was
    (goes_on c.check_keys.ensures c.in_ok-check_keys.was
    (goes_on (fitting q.After-staged-2) c.in_ok-staged-2.was
    (goes_on (kept q.After-staged-3) c.in_ok-staged-3.was
    (frame-stops _ (sent q.After-read_frame).says c.in_err-read_frame.was)))) ∙ sym (open_in_order _ _ _ _ _)

pub check_rest-requires : goal.check_rest-requires
check_rest-requires c = let q = goal.at.check_rest-requires c in
    let r = rounds_fit q.In_ok-staged-2 in
    (keys_fine q.In_ok-check_keys, omega (arith, c.from-rounds.ensures))

pub returns : goal.returns
returns c = let q = goal.at.returns c in
    goes_on (stage q.After-staged) c.in_ok-staged.was
    (goes_on c.check_keys.ensures c.in_ok-check_keys.was
    (goes_on (fitting q.After-staged-2) c.in_ok-staged-2.was
    (goes_on (kept q.After-staged-3) c.in_ok-staged-3.was
    (frame_goes_on (sent q.After-read_frame).says c.in_ok-read_frame.was (rw (c.matrix-a.ensures.places, c.from-rounds.ensures) at c.check_rest.ensures))))) ∙ sym (open_in_order _ _ _ _ _)
