-- What of a report was written, line by line.
use Rattle.std.proofs.Common.{◌≡◌, ℕ, ◌+◌, ◌<◌, List, [], ◌∷◌, ◌++◌, length, take, drop, get_or, Option, Some, option_map, IfSome, refl, sym, ap, ◌∙◌, subst}
use Rattle.std.proofs.lemmas.Grind.{flat_map-append}
use Rattle.std.proofs.lemmas.List.{at_drop_more, take-append-drop, take_more}
use Rattle.std.proofs.lemmas.List.Concat.{flat_map-cons}
use Rattle.ob_audit.specs.Report.{IsReport}
use Rattle.ob_audit.specs.declared.report.Report.{Report}
use Rattle.ob_io.specs.Store.{Store}
use Rattle.ob_schema.specs.declared.info.ModelInfo.{ModelInfo}
use Rattle.ob_server.specs.declared.ending.Ending.TheVariants as ending
use Rattle.ob_server.specs.declared.ending.Ending.{Ending}
use Rattle.ob_server.specs.Ending.{WritesPart}
use Rattle.ob_server.specs.Session.{reply_lines}
use Rattle.ob_server.proofs.CallerLemmas.{front_after, front_of_more, reply_lines-append, whole_after}
use Rattle.stockd.specs.Audit.{TellsReport, WritesReport, report_text}

-- what is known of something that is told
pub at_told : {A : Type 0} (P : A → Type 0) (own : A) (told : Option A) → told ≡ Some own → IfSome told P → P own
at_told {A} P own told is known = subst (λ (t : Option A). IfSome t P) is known

-- the lines before one, that one, and those behind it
lines_split : (lines : List (List ℕ)) (i : ℕ) (line : List ℕ) → i < length lines → line ≡ get_or lines i line
    → reply_lines lines ≡ reply_lines (take i lines) ++ ((line ++ 10 ∷ []) ++ reply_lines (drop (i + 1) lines))
lines_split lines i line within item =
    sym (ap (λ (some : List (List ℕ)). reply_lines some) (take-append-drop i lines))
    ∙ flat_map-append (λ (l : List ℕ). l ++ 10 ∷ []) (take i lines) (drop i lines)
    ∙ ap (λ (rest : List ℕ). reply_lines (take i lines) ++ rest) (at_drop_more (λ (some : List (List ℕ)). reply_lines some) lines i line within
    ∙ flat_map-cons (λ (l : List ℕ). l ++ 10 ∷ []) (get_or lines i line) (drop (i + 1) lines)
    ∙ ap (λ (l : List ℕ). (l ++ 10 ∷ []) ++ reply_lines (drop (i + 1) lines)) (sym item))

-- one line more was written
pub line_more : (before mid now : Option (List ℕ)) (lines : List (List ℕ)) (i : ℕ) (line : List ℕ) → i < length lines → line ≡ get_or lines i line
    → mid ≡ option_map (λ w. w ++ reply_lines (take i lines)) before → now ≡ option_map (λ w. w ++ (line ++ 10 ∷ [])) mid
    → now ≡ option_map (λ w. w ++ reply_lines (take (i + 1) lines)) before
line_more before mid now lines i line within item so_far written =
    whole_after before mid now (reply_lines (take i lines)) (line ++ 10 ∷ []) so_far written ∙ ap (λ (text : List ℕ). option_map (λ w. w ++ text) before) (sym one_more)
  where
    one_more : reply_lines (take (i + 1) lines) ≡ reply_lines (take i lines) ++ (line ++ 10 ∷ [])
    one_more =
        ap (λ (some : List (List ℕ)). reply_lines some) (take_more lines i line within)
        ∙ ap (λ (l : List ℕ). reply_lines (take i lines ++ l ∷ [])) (sym item)
        ∙ reply_lines-append (take i lines) line

-- a line that is cut short cuts them all short
pub cut_in_line : (before mid now : Option (List ℕ)) (lines : List (List ℕ)) (i : ℕ) (line : List ℕ) → i < length lines → line ≡ get_or lines i line
    → mid ≡ option_map (λ w. w ++ reply_lines (take i lines)) before → WritesPart mid now (line ++ 10 ∷ []) → WritesPart before now (reply_lines lines)
cut_in_line before mid now lines i line within item so_far part =
    let rest = reply_lines (drop (i + 1) lines) in
    subst (λ (text : List ℕ). WritesPart before now text) (sym (lines_split lines i line within item))
    (front_after before mid now (reply_lines (take i lines)) ((line ++ 10 ∷ []) ++ rest) so_far (front_of_more mid now (line ++ 10 ∷ []) rest part))

-- of a report that was made this was written
pub report_told : (models : List ModelInfo) (store : Store) (report : Report) (rose : Type 0) (why : Ending) (old now : Option (List ℕ))
    → IsReport models store report → WritesReport report why old now → (written : List ℕ) × TellsReport models store rose why written × (now ≡ option_map (λ w. w ++ written) old)
report_told models store report rose ending.Done old now is (equal, written) = (report_text report, (report, is, equal, refl), written)
report_told models store report rose ending.Differs old now is (equal, written) = (report_text report, (report, is, equal, refl), written)
report_told models store report rose ending.WriteFault old now is (part, cut, written) = (part, (report, is, cut), written)
report_told models store report rose ending.Usage old now is writes = absurd writes
report_told models store report rose (ending.Module text) old now is writes = absurd writes
report_told models store report rose ending.ReadFault old now is writes = absurd writes
report_told models store report rose ending.KeeperFault old now is writes = absurd writes
report_told models store report rose ending.NoMemory old now is writes = absurd writes
report_told models store report rose (ending.Store cell) old now is writes = absurd writes
report_told models store report rose (ending.TooLong number) old now is writes = absurd writes
