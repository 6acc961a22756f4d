-- `write_choice` meets its contract: R over the front, and σ behind it.
use mathlib.Core.Path.{◌≡◌, sym, ap, ◌∙◌, subst}
use mathlib.Core.List.{List}
use Prim.Native.Nat.{ℕ, ◌-◌}
use native.Mathlib.Omega.{arith}
use borrow.Author.Rules.{rules}
use lib.ListN.{length}
use borrow.Rule.Slice.PartMut.{mid_of}
use Rattle.random.specs.Drawings.{Drawing, draw_permutation, used_by, drawn_over}
use Rattle.algebra.specs.Residues.{modulus, Residues}
use Rattle.random.proofs.Drawings.{Permutes, drawn-perm}
use Rattle.draw_rules.specs.Making.{draw_choice}
use Rattle.random.specs.Sequences.{draw_residues}
use Rattle.random.proofs.Sequences.{drew_of, then_drew, enough-first, enough_next, behind, Always, some_below_lem}
use Rattle.draw.proofs.choices.write_choice.Goals as goal

pub write_below-p-requires : goal.write_below-p-requires
unfolding draw_choice
write_below-p-requires c = (enough-first (draw_residues c.args.n c.args.random.now c.args.at) (draw_permutation c.args.n c.args.random.now) c.requires.0, search rules)

pub write_permutation-requires : goal.write_permutation-requires
unfolding draw_choice
write_permutation-requires c = (
  enough_next (draw_residues c.args.n c.args.random.now c.args.at) (draw_permutation c.args.n c.args.random.now) _ c.requires.0 c.write_below-p.ensures.0,
  search rules,
  search rules,
  search rules,
)

pub returns : goal.returns
unfolding draw_choice
returns c = let n = c.args.n in
    let random = c.args.random.now in
    let out = c.args.out.now in
    let first = c.write_below-p in
    let second = c.write_permutation in
    let r = draw_residues n random c.args.at in
    let a = drew_of r first.result first.ensures.0 in
    let s = draw_permutation n random first.result in
    let b = drew_of s second.result second.ensures.0 in
    let t = then_drew r (draw_permutation n random) a.1 b.1 in
    let half = first.new.out in
    let i = (subst (Always (λ (l : List ℕ). (length l ≡ n) × Residues modulus l)) a.1 (some_below_lem modulus random n c.args.at)).0 in
    let j = (subst (Permutes n) b.1 (drawn-perm n random first.result c.requires.1)).len in (
      sym (ap used_by t),
      behind a.0 b.0 out half _ n (length half - n) i (first.ensures.1 ∙ ap (λ (z : Drawing). drawn_over z out) a.1) (second.ensures.1 ∙ ap (λ (z : Drawing). drawn_over z (mid_of n (length half - n) half)) b.1) (omega (arith, first.auto)) (omega (arith, first.auto))
          ∙ sym (ap (λ (z : Drawing). drawn_over z out) t),
    )
