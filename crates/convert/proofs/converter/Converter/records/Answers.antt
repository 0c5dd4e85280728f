use mathlib.Core.Path.{sym, ◌∙◌}
use Rattle.convert.proofs.converter.Converter.records.Goals as goal

pub gates-requires : goal.gates-requires
gates-requires c = record { write_at = (rw (sym c.is_narrow.ensures ∙ c.if-is_narrow.true) at c.requires.write_at) }

pub gates-requires-2 : goal.gates-requires-2
gates-requires-2 c = record { write_at = (rw (sym c.is_narrow.ensures ∙ c.if-is_narrow.false) at c.requires.write_at) }
