use Rattle.std.proofs.Common.{◌≡◌, map, take}
use Rattle.ob_query.specs.SearchQuestions.{OnlyAsked, TellsTo}
use Rattle.ob_query.specs.Search.{held_of}
use Rattle.ob_query.specs.SearchKeys.{key_of}
use Rattle.ob_schema.specs.Facts.{OfAllTold}
use Rattle.ob_query.proofs.searching.found.keys_of.Given as goal

-- the keys of the first terms
abbrev pub invariant-loop-term : goal.invariant-loop-term
invariant-loop-term g l =
    let K = g.K.Keeper in
    record {
      asked : OnlyAsked K l.fn.engine l.engine;
      told : OfAllTold (TellsTo K l.sought.by l.fn.engine) (λ told. l.keys.items ≡ map (key_of (held_of told l.sought.model) l.id) (take l.term-index l.sought.order));
    }
