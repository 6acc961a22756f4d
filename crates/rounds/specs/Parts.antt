-- The messages of the code as those of the definitions.
use Rattle.rounds.specs.Layout.{messages}
use Rattle.rounds.specs.declared.Messages.{Messages}

abbrev pub as_messages : Messages → Rattle.rounds.specs.Layout.Messages
as_messages x = messages x.commitments.now x.challenges.now x.answers.now x.bits.now x.openings.now
