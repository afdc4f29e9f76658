-- Each word is compared by its bytes.
use Rattle.std.proofs.Common.{String, Global, ◌∙◌, string_bytes, rules, tests}
use Rattle.std.specs.Str.{bytes_eq}
use Rattle.std.proofs.lemmas.Iterator.{YieldsList-from_slice}
use Rattle.std.proofs.lemmas.Iterator.Search.{any_from_yields_List}
use Rattle.clap.proofs.WalkLemmas.{list_any-map}
use Rattle.ob_words.proofs.reading.has_word.Goals as goal

pub returns : goal.returns
returns c =
    any_from_yields_List (λ (word : String Global). bytes_eq c.args.one.now (string_bytes word)) _ _ c.any.result c.any.ensures.ran (YieldsList-from_slice c.args.words.now cc) (λ x b q k. search (rules, tests))
    ∙ list_any-map (bytes_eq c.args.one.now) string_bytes c.args.words.now
