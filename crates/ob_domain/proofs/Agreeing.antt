-- Where two know the same rows and tell the same of the fields that a tree asks, it holds of a known row to both or to neither.
use Rattle.std.proofs.Common.{◌≡◌, ◌&&◌, ◌||◌, Bool, true, false, List, [], ◌∷◌, ◌++◌, not, refl, sym, ap, subst, ◌∙◌}
use Rattle.std.proofs.lemmas.List.Elements.{Contains-append_left, Contains-append_right, Contains-push}
use Rattle.std.specs.List.{list_any, Contains}
use Rattle.ob_base.specs.declared.id.ModelNo.{ModelNo}
use Rattle.ob_base.specs.declared.id.RecId.{RecId}
use Rattle.ob_base.specs.declared.value.Value.{Value}
use Rattle.ob_expr.specs.Meaning.{cell_in, row_at}
use Rattle.ob_expr.specs.declared.row.Row.{Row}
use Rattle.ob_expr.specs.declared.typed.Link.{Link}
use Rattle.ob_schema.specs.Facts.{Told}
use Rattle.ob_schema.specs.Paths.{step_at}
use Rattle.ob_schema.specs.declared.info.Step.{Step}
use Rattle.ob_domain.specs.Holding.{holds, passes, some_below, some_reached}
use Rattle.ob_domain.specs.Naming.{AgreeOn, fields_along, held_in, named_fields, paths_asked, paths_of_test}
use Rattle.ob_domain.specs.Over.{end_of}
use Rattle.ob_domain.specs.Passing.{is_in_path, rows_named, targets_of}
use Rattle.ob_domain.specs.Trees.{Tree, constant, both, either, negation, criterion, any}
use Rattle.ob_domain.specs.declared.term.Test.{Test}
use Rattle.ob_domain.specs.declared.term.Test.TheVariants as test
use Rattle.ob_domain.proofs.AnyOf.{list_any-same}

-- what is asked only where a test passes
guarded : (b c x y : Bool) → b ≡ c → (b ≡ true → x ≡ y) → (b && x) ≡ (c && y)
guarded true c x y same here = subst (λ (d : Bool). (true && x) ≡ (d && y)) same (here refl)
guarded false c x y same here = subst (λ (d : Bool). (false && x) ≡ (d && y)) same refl

module _ (one other : Told) (user : RecId) where
  agree_left : (xs ys : List Step) → AgreeOn (xs ++ ys) one other → AgreeOn xs one other
  agree_left xs ys agree = record { rows = agree.rows; cells = λ field id has. agree.cells field id (Contains-append_left xs ys field has) }

  agree_right : (xs ys : List Step) → AgreeOn (xs ++ ys) one other → AgreeOn ys one other
  agree_right xs ys agree = record { rows = agree.rows; cells = λ field id has. agree.cells field id (Contains-append_right xs ys field has) }

  agree_first : (x : Step) (xs : List Step) → AgreeOn (x ∷ xs) one other → (id : RecId) → one.knows x.model id ≡ true → held_in one x id ≡ held_in other x id
  agree_first x xs agree id known = (agree_left (x ∷ []) xs agree).cells x id (Contains-push [] x) known

  -- the same rows stand below others
  below_same : (paths : Step) (uppers lowers : List RecId) → AgreeOn (paths ∷ []) one other → some_below one paths uppers lowers ≡ some_below other paths uppers lowers
  below_same paths uppers lowers agree =
      let in_path : Value → Bool = λ v. list_any (λ up. is_in_path up v) uppers in
      list_any-same (λ low. one.knows paths.model low && in_path (held_in one paths low)) (λ low. other.knows paths.model low && in_path (held_in other paths low)) lowers
      (λ low. guarded (one.knows paths.model low) (other.knows paths.model low) (in_path (held_in one paths low)) (in_path (held_in other paths low)) (agree.rows paths.model low)
      (λ known. ap in_path (agree_first paths [] agree low known)))

  passes_same : (asked : Test) (v : Value) → AgreeOn (paths_of_test asked) one other → passes one user asked v ≡ passes other user asked v
  passes_same test.Always v agree = refl
  passes_same (test.OneOf operands) v agree = refl
  passes_same (test.Compares how operand) v agree = refl
  passes_same (test.Matches pattern) v agree = refl
  passes_same (test.ChildOf paths operands) v agree = below_same paths (rows_named user operands) (targets_of v) agree
  passes_same (test.ParentOf paths operands) v agree = below_same paths (targets_of v) (rows_named user operands) agree

  -- links lead to the same rows
  reached_same : (here there : Row → Bool) (model : ModelNo) (links : List Link) (id : RecId) → AgreeOn (fields_along model links) one other → one.knows model id ≡ true
      → ((id : RecId) → one.knows (end_of model links) id ≡ true → here (row_at (end_of model links) id) ≡ there (row_at (end_of model links) id))
      → some_reached one here links (row_at model id) ≡ some_reached other there links (row_at model id)
  reached_same here there model [] id agree known same = same id known
  reached_same here there model (link ∷ links) id agree known same =
      let rest : AgreeOn (fields_along link.target links) one other = agree_right (step_at model link.field ∷ []) (fields_along link.target links) agree in
      let leads : RecId → Bool = λ id. other.knows link.target id && some_reached other there links (row_at link.target id) in
      let ids : List RecId = targets_of (one.held (cell_in (row_at model id) link.field)) in
      list_any-same (λ id. one.knows link.target id && some_reached one here links (row_at link.target id)) leads ids
      (λ next. guarded (one.knows link.target next) (other.knows link.target next) (some_reached one here links (row_at link.target next)) (some_reached other there links (row_at link.target next))
      (agree.rows link.target next) (λ met. reached_same here there link.target links next rest met same))
      ∙ ap (λ (v : Value). list_any leads (targets_of v)) (agree_first (step_at model link.field) (fields_along link.target links) agree id known)

  holds_same : (model : ModelNo) (tree : Tree) (id : RecId) → AgreeOn (named_fields model tree) one other → AgreeOn (paths_asked tree) one other → one.knows model id ≡ true
      → holds one user tree (row_at model id) ≡ holds other user tree (row_at model id)
  holds_same model (constant b) id fields paths known = refl
  holds_same model (both a b) id fields paths known =
      ap (λ (x : Bool). x && holds one user b (row_at model id))
      (holds_same model a id (agree_left (named_fields model a) (named_fields model b) fields) (agree_left (paths_asked a) (paths_asked b) paths) known)
      ∙ ap (λ (x : Bool). holds other user a (row_at model id) && x)
      (holds_same model b id (agree_right (named_fields model a) (named_fields model b) fields) (agree_right (paths_asked a) (paths_asked b) paths) known)
  holds_same model (either a b) id fields paths known =
      ap (λ (x : Bool). x || holds one user b (row_at model id))
      (holds_same model a id (agree_left (named_fields model a) (named_fields model b) fields) (agree_left (paths_asked a) (paths_asked b) paths) known)
      ∙ ap (λ (x : Bool). holds other user a (row_at model id) || x)
      (holds_same model b id (agree_right (named_fields model a) (named_fields model b) fields) (agree_right (paths_asked a) (paths_asked b) paths) known)
  holds_same model (negation a) id fields paths known = ap not (holds_same model a id fields paths known)
  holds_same model (criterion field asked) id fields paths known =
      passes_same asked (one.held (cell_in (row_at model id) field)) paths ∙ ap (passes other user asked) (agree_first (step_at model field) [] fields id known)
  holds_same model (any links tree) id fields paths known =
      reached_same (holds one user tree) (holds other user tree) model links id (agree_left (fields_along model links) (named_fields (end_of model links) tree) fields) known
      (λ next met. holds_same (end_of model links) tree next (agree_right (fields_along model links) (named_fields (end_of model links) tree) fields) paths met)

  pub holds_by_fields : (model : ModelNo) (tree : Tree) → AgreeOn (named_fields model tree ++ paths_asked tree) one other → (id : RecId) → one.knows model id ≡ true
      → holds one user tree (row_at model id) ≡ holds other user tree (row_at model id)
  holds_by_fields model tree agree id known =
      holds_same model tree id (agree_left (named_fields model tree) (paths_asked tree) agree) (agree_right (named_fields model tree) (paths_asked tree) agree) known
