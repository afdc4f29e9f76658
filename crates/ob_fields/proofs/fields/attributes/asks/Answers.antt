use Rattle.ob_fields.proofs.FieldsAsked.{asks_of}
use Rattle.ob_fields.proofs.fields.attributes.asks.Goals as goal

pub returns-else-is_empty : goal.returns-else-is_empty
returns-else-is_empty c = asks_of c.args.words.now c.args.attribute.now c.is_empty.result c.has_word.result c.is_empty.ensures c.if-is_empty.false c.has_word.ensures
