-- The frames of the code as the record of the definitions.
use Rattle.card_rules.specs.Keys.{keys}
use Rattle.card_rules.specs.declared.keys.Keys.{Keys}

abbrev pub as_keys : Keys → Rattle.card_rules.specs.Keys.Keys
as_keys k = keys k.system.now k.public.now k.secret.now
