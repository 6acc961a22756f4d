-- The sign-on of the code as that of the definitions.
use Rattle.register_rules.specs.Verdict.{sign_on}
use Rattle.register_rules.specs.declared.SignOn.{SignOn}

abbrev pub as_sign_on : SignOn → Rattle.register_rules.specs.Verdict.SignOn
as_sign_on x = sign_on x.system.now x.key.now x.commitments.now x.challenges.now x.answers.now x.bits.now x.openings.now
