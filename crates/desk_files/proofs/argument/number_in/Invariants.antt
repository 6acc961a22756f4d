-- `number_in` meets its contract: from each byte on, what is left of the text says the same after the value so far.
use Rattle.std.proofs.Common.{drop, ◌≡◌}
use Rattle.desk_files.specs.Numbers.{number_from, number_in}
use Rattle.desk_files.proofs.argument.number_in.Given as goal

abbrev pub invariant-loop-x : goal.invariant-loop-x
invariant-loop-x l = number_from l.value (drop l.x-index l.text) ≡ number_in l.text
