-- Waits have all of the grammar's laws.
use Rattle.grammar.proofs.Facts.{Facts, Laws}
use Rattle.grammar.proofs.Laws.{format_laws, any_facts}
use Rattle.events.specs.Event.{event_form}
use Rattle.events.specs.Wait.{wait_grammar, wait_format}
pub use Rattle.events.specs.Laws.{wait_grammar_lem}

pub wait_laws : Laws wait_format
wait_laws = format_laws wait_grammar wait_grammar_lem

pub event_facts : Facts event_form
event_facts = any_facts wait_grammar wait_grammar_lem
