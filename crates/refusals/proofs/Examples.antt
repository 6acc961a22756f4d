-- The definitions of `specs/` on examples, by computation.
use mathlib.Core.Path.{◌≡◌, refl}
use mathlib.Core.Bool.{true, false}
use mathlib.Core.List.{[], ◌∷◌}
use Rattle.std.specs.Prelude.{Ok, Err}
use Rattle.refusals.specs.declared.Reason.TheVariants.{Shape}
use Rattle.refusals.specs.declared.Buffer.TheVariants.{NoBuffer}
use Rattle.refusals.specs.Number.{SHAPE, VALUE, ROOM}
use Rattle.refusals.specs.Buffer.{NONE, SYSTEM, OUTPUT}
use Rattle.refusals.specs.Told.{Told, done, refused, fine, means, first, demand}

-- a chain of a number, a residue and the room, that ends by telling 37
chain : Told → Told → Told → Told
chain number residue room = first number (first residue (first room (done (37 ∷ []))))

nothing_refused : chain fine fine fine ≡ done (37 ∷ [])
unfolding chain
nothing_refused = refl

the_first_refusal_counts : chain fine (demand false VALUE SYSTEM 9) (demand false ROOM OUTPUT 37) ≡ refused 6 1 9
unfolding chain
the_first_refusal_counts = refl

the_last_is_reached : chain (demand true SHAPE NONE 0) fine (demand false ROOM OUTPUT 37) ≡ refused 9 11 37
unfolding chain
the_last_is_reached = refl

a_check_that_passes : means (Ok tt) ≡ done []
a_check_that_passes = refl

a_check_that_refuses : means (Err (record { reason = Shape; buffer = NoBuffer; place = 0 })) ≡ refused 5 0 0
a_check_that_refuses = refl
