-- Which rows links lead to, one row and one link after another.
use Rattle.std.proofs.Common.{◌≡◌, ℕ, zero, suc, ◌+◌, ◌<◌, ◌&&◌, ◌||◌, Bool, true, List, [], ◌∷◌, All, map, length, get_or, take, drop, add-one, arith, refl, sym, ap, subst, ◌∙◌}
use Rattle.std.proofs.Math.Bool.{or_assoc}
use Rattle.std.proofs.lemmas.List.{drop_more}
use Rattle.std.proofs.lemmas.List.Elements.{All-map}
use Rattle.std.proofs.lemmas.List.Folds.{list_any_more}
use Rattle.std.specs.List.{list_any}
use Rattle.ob_base.specs.declared.id.ModelNo.{ModelNo}
use Rattle.ob_base.specs.declared.id.RecId.{RecId}
use Rattle.ob_expr.specs.Meaning.{cell_in, row_at}
use Rattle.ob_expr.specs.declared.row.Row.{Row as SpecRow}
use Rattle.ob_expr.specs.declared.typed.Link.{Link}
use Rattle.ob_schema.specs.Facts.{Told}
use Rattle.ob_schema.specs.Models.{HasField, HasModel}
use Rattle.ob_schema.specs.declared.info.ModelInfo.{ModelInfo}
use Rattle.ob_domain.specs.Holding.{some_reached}
use Rattle.ob_domain.specs.Over.{AreLinks, end_of}
use Rattle.ob_domain.specs.Passing.{targets_of}
use Rattle.ob_domain.specs.declared.asked.Row.{Row}
use Rattle.ob_domain.proofs.AnyOf.{list_any-map}

-- one more row that is known, or isn't
pub known_more : (told : Told) (target : ModelNo) (test : RecId → Bool) (ids : List RecId) (i : ℕ) (d : RecId) (old before after : Bool)
    → i < length ids → after ≡ (before || (told.knows target (get_or ids i d) && test (get_or ids i d)))
    → before ≡ (old || list_any (λ id. told.knows target id && test id) (take i ids))
    → after ≡ (old || list_any (λ id. told.knows target id && test id) (take (i + 1) ids))
known_more told target test ids i d old before after l is was =
    let f : RecId → Bool = λ id. told.knows target id && test id in
    is ∙ ap (λ (b : Bool). b || f (get_or ids i d)) was
    ∙ or_assoc old (list_any f (take i ids)) (f (get_or ids i d))
    ∙ ap (λ (b : Bool). old || b) (sym (list_any_more f ids i d l))

-- ---- the rows behind a link

-- some known target of the row's cell passes
abbrev pub names_some : Told → Link → (RecId → Bool) → Row → Bool
names_some told link test r = list_any (λ id. told.knows link.target id && test id) (targets_of (told.held (cell_in (row_at r.model r.id) link.field)))

pub row_more : (told : Told) (link : Link) (test : RecId → Bool) (rows : List Row) (i : ℕ) (d : Row) (before after : Bool)
    → i < length rows → after ≡ (before || names_some told link test (get_or rows i d))
    → before ≡ list_any (names_some told link test) (take i rows) → after ≡ list_any (names_some told link test) (take (i + 1) rows)
row_more told link test rows i d before after l is was =
    is ∙ ap (λ (b : Bool). b || names_some told link test (get_or rows i d)) was
    ∙ sym (list_any_more (names_some told link test) rows i d l)

abbrev row_of : ModelNo → RecId → Row
row_of model id = record { model = model; id = id }

pub met_of : (model : ModelNo) (meets : SpecRow → Bool) (ids : List RecId)
    → list_any (λ (r : Row). meets (row_at r.model r.id)) (map (row_of model) ids) ≡ list_any (λ id. meets (row_at model id)) ids
met_of model meets ids = list_any-map (λ (r : Row). meets (row_at r.model r.id)) (row_of model) ids

pub known_of : (told : Told) (model : ModelNo) (ids : List RecId) → All (λ id. told.knows model id ≡ true) ids → All (λ (r : Row). told.knows r.model r.id ≡ true) (map (row_of model) ids)
known_of told model ids all = All-map (λ (r : Row). told.knows r.model r.id ≡ true) (row_of model) ids all

pub ends_at : (model : ModelNo) (ids : List RecId) → All (λ (r : Row). r.model ≡ model) (map (row_of model) ids)
ends_at model ids = All-map (λ (r : Row). r.model ≡ model) (row_of model) ids (λ k d h. refl)

-- ---- one link after another

module _ (models : List ModelInfo) where
  -- where links lead once some of them are gone
  pub links_left : (model : ModelNo) (links : List Link) (i : ℕ) (d : Link) → i < length links → AreLinks models model links
      → HasModel models (get_or links i d).target × AreLinks models (get_or links i d).target (drop (i + 1) links)
  links_left model [] i d l are = absurd (omega arith)
  links_left model (link ∷ links) zero d l are = (are.1, are.2)
  links_left model (link ∷ links) (suc i) d l are = rw (add-one (suc i)) (let here = links_left link.target links i d (omega arith) are.2 in rw (add-one i) at here)

  pub fields_left : (model : ModelNo) (links : List Link) (i : ℕ) (d : Link) → i < length links → AreLinks models model (drop i links) → HasField models model (get_or links i d).field
  fields_left model [] i d l are = absurd (omega arith)
  fields_left model (link ∷ links) zero d l are = are.0
  fields_left model (link ∷ links) (suc i) d l are = fields_left model links i d (omega arith) are

pub fields_behind : (models now : List ModelInfo) (links : List Link) (i : ℕ) (e : Link) (rows shown : List Row) → shown ≡ rows → now ≡ models → i < length links
    → All (λ (r : Row). AreLinks models r.model (drop i links)) rows → All (λ (r : Row). HasField now r.model (get_or links i e).field) shown
fields_behind models now links i e rows shown same kept l are =
    subst (λ (rs : List Row). All (λ (r : Row). HasField now r.model (get_or links i e).field) rs) (sym same)
    (subst (λ (ms : List ModelInfo). All (λ (r : Row). HasField ms r.model (get_or links i e).field) rows) (sym kept)
    (λ k d h. fields_left models (get_or rows k d).model links i e l (are k d h)))

pub target_behind : (models now : List ModelInfo) (model : ModelNo) (links : List Link) (i : ℕ) (e : Link) → now ≡ models → i < length links
    → AreLinks models model links → HasModel now (get_or links i e).target
target_behind models now model links i e kept l are = subst (λ (ms : List ModelInfo). HasModel ms (get_or links i e).target) (sym kept) (links_left models model links i e l are).0

pub links_behind : (models : List ModelInfo) (model : ModelNo) (links : List Link) (i : ℕ) (e : Link) (found : List Row) → i < length links → AreLinks models model links
    → All (λ (r : Row). r.model ≡ (get_or links i e).target) found → All (λ (r : Row). AreLinks models r.model (drop (i + 1) links)) found
links_behind models model links i e found l are ends =
    λ k d h. subst (λ (m : ModelNo). AreLinks models m (drop (i + 1) links)) (sym (ends k d h)) (links_left models model links i e l are).1

pub end_left : (model : ModelNo) (links : List Link) (i : ℕ) (d : Link) → i < length links → end_of (get_or links i d).target (drop (i + 1) links) ≡ end_of model links
end_left model [] i d l = absurd (omega arith)
end_left model (link ∷ links) zero d l = refl
end_left model (link ∷ links) (suc i) d l = rw (add-one (suc i)) (rw (add-one i) at (end_left link.target links i d (omega arith)))

pub ends_behind : (model : ModelNo) (links : List Link) (i : ℕ) (e : Link) (found : List Row) → i < length links
    → All (λ (r : Row). r.model ≡ (get_or links i e).target) found → All (λ (r : Row). end_of r.model (drop (i + 1) links) ≡ end_of model links) found
ends_behind model links i e found l ends =
    λ k d h. subst (λ (m : ModelNo). end_of m (drop (i + 1) links) ≡ end_of model links) (sym (ends k d h)) (end_left model links i e l)

-- some of the rows leads to one that meets what is asked
abbrev pub some_leads : Told → (SpecRow → Bool) → List Link → List Row → Bool
some_leads told meets links rows = list_any (λ (r : Row). some_reached told meets links (row_at r.model r.id)) rows

pub along_more : (told : Told) (meets : SpecRow → Bool) (links : List Link) (i : ℕ) (e : Link) (rows shown found : List Row) (b : Bool)
    → shown ≡ rows → i < length links
    → ((m : SpecRow → Bool) → list_any (λ (r : Row). m (row_at r.model r.id)) found ≡ some_leads told m (get_or links i e ∷ []) shown)
    → some_leads told meets (drop i links) rows ≡ b → some_leads told meets (drop (i + 1) links) found ≡ b
along_more told meets links i e rows shown found b same l behind was =
    let rest : SpecRow → Bool = some_reached told meets (drop (i + 1) links) in
    behind rest
    ∙ ap (some_leads told rest (get_or links i e ∷ [])) same
    ∙ ap (λ (ls : List Link). some_leads told meets ls rows) (sym (drop_more links i e l))
    ∙ was
