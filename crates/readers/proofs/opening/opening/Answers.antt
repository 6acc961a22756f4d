-- `opening` meets its contract: where the check refuses, the definition has nothing.
use Rattle.frames.specs.Reading.{opening_of}
use Rattle.readers.proofs.opening.opening.Goals as goal

pub returns-in-Ok : goal.returns-in-Ok
returns-in-Ok c = c.in-Ok.ensures.part

pub returns-in-Err : goal.returns-in-Err
unfolding opening_of
returns-in-Err c = rw (← c.in-Err.ensures.told)
