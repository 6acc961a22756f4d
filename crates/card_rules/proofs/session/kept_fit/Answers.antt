-- `kept_fit` meets its contract: the test of all that are looked at.
use mathlib.Core.Path.{◌∙◌}
use Prim.Native.Nat.{ℕ}
use native.Mathlib.Omega.{arith}
use lib.Dec.{ltb}
use Rattle.std.proofs.lemmas.Iterator.{YieldsList-from_slice}
use Rattle.std.proofs.lemmas.Iterator.Search.{all_from_yields_List}
use Rattle.algebra.specs.Residues.{modulus}
use Rattle.card_rules.proofs.Records.{kept_tested}
use Rattle.card_rules.proofs.session.kept_fit.Goals as goal

pub returns : goal.returns
returns c =
    all_from_yields_List (λ (x : ℕ). ltb x modulus) _ _ _ c.all.ensures.ran (YieldsList-from_slice _ c.iter.ensures.rest) (λ x b q k. grind arith)
    ∙ rw c.from.ensures (kept_tested _ _ (omega arith))
