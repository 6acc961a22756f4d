-- `unused_clear` meets its contract: the numbers looked at are those from N to the last bit.
use mathlib.Core.Path.{refl, ◌∙◌}
use mathlib.Core.Bool.{not}
use Prim.Native.Nat.{ℕ, ◌-◌, ◌*◌}
use lib.ListN.{length}
use borrow.Author.Rules.{rules}
use borrow.Author.Tests.{tests}
use Rattle.std.proofs.lemmas.Iterator.{YieldsList-from_range}
use Rattle.std.proofs.lemmas.Iterator.Search.{all_from_yields_List}
use Rattle.packed_bits.specs.PackedBits.{bit_at, clear_from, unused_clear}
use Rattle.packed_bits.proofs.Unused.{all_range}
use Rattle.packed_bits.proofs.unused_clear.Goals as goal

pub returns : goal.returns
unfolding unused_clear
returns c =
    let bytes = c.args.bytes.now in
    let N = c.args.rounds in
    let n = 8 * length bytes - N in
    all_from_yields_List (λ (k : ℕ). not (bit_at bytes k)) _ _ _ c.all.ensures.ran (YieldsList-from_range N (8 * length bytes) n (cc) refl) (λ x b q k. search (rules, tests))
    ∙ all_range _ (clear_from N bytes) N n (λ j l. refl)
