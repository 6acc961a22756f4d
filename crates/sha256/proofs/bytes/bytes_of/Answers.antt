-- `bytes_of` lays each word's bytes after those of the words before it: after i words the first 4 i bytes are those words'.
use mathlib.Core.List.{[], ◌∷◌}
use mathlib.Core.Path.{◌≡◌, refl, sym, ◌∙◌}
use native.Mathlib.Omega.{arith}
use lib.Seq.{take_all}
use Rattle.sha256.proofs.Laid.{word_bytes, words_more}
use Rattle.sha256.specs.Standard.{bytes_of, bytes_of_words}
use Rattle.sha256.proofs.bytes.bytes_of.Goals as goal

pub loop-i-init : goal.loop-i-init
unfolding bytes_of_words
loop-i-init c = (refl, refl)

pub loop-i-preserved : goal.loop-i-preserved
loop-i-preserved c = let b = c.to_be_bytes in
    let v = c.args.v in
    let words = v.a ∷ v.b ∷ v.c ∷ v.d ∷ v.e ∷ v.f ∷ v.g ∷ v.h ∷ [] in (
      c.lay.auto.buffer ∙ c.loop-i.invariant.0,
      rw c.lay.ensures
          (words_more words c.loop-i.out b.result c.loop-i.i (omega arith) (omega arith) c.loop-i.invariant.1 (b.ensures ∙ word_bytes _)),
    )

pub returns : goal.returns
unfolding bytes_of
returns c = let e : c.loop-i.i ≡ 8 = omega arith in
    sym (take_all 32 c.loop-i.out (omega arith)) ∙ (rw e at c.loop-i.invariant.1)
