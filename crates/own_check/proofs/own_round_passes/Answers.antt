-- `own_round_passes` meets its contract: what is opened is formed, and looked at.
use mathlib.Core.Path.{◌≡◌, ap, sym, ◌∙◌}
use lib.ListN.{length, take}
use Rattle.algebra.proofs.Lists.{front}
use Rattle.algebra.specs.Residues.{modulus}
use Rattle.own_check.proofs.Own.{own-parts}
use Rattle.scheme.specs.Round.{first_answer, opening, as_system}
use Rattle.round.specs.Parts.{as_pair}
use Rattle.rounds.proofs.Cuts.{own}
use Rattle.rounds.proofs.Runs.{answer-length, opening-length, opening-perm}
use Rattle.sha256.proofs.Digest.{digest_length}
use Rattle.own_check.proofs.own_round_passes.Goals as goal
use Rattle.own_check.proofs.own_round_passes.Goals.{After-first_answer_into, After-open_into}

-- W and the permutation, as they stand in front of their rooms
answer : (c : After-first_answer_into)
    → take c.args.a.now.n c.first_answer_into.new.out ≡ first_answer modulus c.args.v.now c.args.pi.now c.args.c (as_pair c.args.x)
answer c =
    let g = c.args in
    front _ _ _ g.a.now.n (answer-length modulus g.a.now.n g.v.now g.pi.now g.c (as_pair g.x) c.requires.2 c.requires.3) c.first_answer_into.ensures

shown : (c : After-open_into) → take c.args.a.now.n c.open_into.new.out ≡ opening c.args.pi.now c.args.bit c.args.x.permutation.now
shown c =
    let g = c.args in
    front _ _ _ g.a.now.n (opening-length g.a.now.n g.pi.now g.bit g.x.permutation.now c.requires.3) c.open_into.ensures

pub invariant_of-opened : goal.invariant_of-opened
invariant_of-opened c =
    let g = c.args in
    let h = c.requires in
    let n = g.a.now.n in
    let w = answer-length modulus n g.v.now g.pi.now g.c (as_pair g.x) h.2 h.3 in
    let t = opening-length n g.pi.now g.bit g.x.permutation.now h.3 in
    record {
      size = ap length c.commitment_of-commitment.ensures ∙ digest_length _;
      even = rw (answer (goal.at.invariant_of-opened c).After-first_answer_into, shown (goal.at.invariant_of-opened c).After-open_into) (w ∙ sym t);
      perm = rw (shown (goal.at.invariant_of-opened c).After-open_into) (own n _ (opening-perm n g.pi.now g.bit g.x.permutation.now h.2 h.3));
    }

pub returns : goal.returns
returns c =
    let g = c.args in
    c.passes.ensures
    ∙ own-parts (as_system g.a.now) g.v.now g.pi.now g.c g.bit (as_pair g.x) _ _ _
    c.commitment_of-commitment.ensures (answer (goal.at.returns c).After-first_answer_into) (shown (goal.at.returns c).After-open_into)
