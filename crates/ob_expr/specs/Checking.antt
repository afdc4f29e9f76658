-- What a tree is in a scope: its names resolved and its kinds found, or the first wrong part. A form of the tree that is added has its kinds here.
use Rattle.std.specs.Prelude.{◌≡◌, ℕ, List, [], ◌∷◌, codes, Bool, true, false, Option, Some, None, Result, Ok, Err, if◌then◌else◌}
use Rattle.std.specs.Str.{bytes_eq}
use Rattle.ob_base.specs.declared.id.FieldNo.{FieldNo}
use Rattle.ob_base.specs.declared.id.ModelNo.{ModelNo}
use Rattle.ob_expr.specs.declared.checker.TypeFault.{TypeFault}
use Rattle.ob_expr.specs.declared.checker.TypeFault.TheVariants as fault
use Rattle.ob_expr.specs.declared.function.Function.{Function}
use Rattle.ob_expr.specs.declared.function.Function.TheVariants as function
use Rattle.ob_expr.specs.declared.kind.Found.{Found}
use Rattle.ob_expr.specs.declared.kind.Kind.{Kind}
use Rattle.ob_expr.specs.declared.kind.Kind.TheVariants as kind
use Rattle.ob_base.specs.declared.syntax.Operator.{Operator}
use Rattle.ob_base.specs.declared.syntax.Operator.TheVariants.{Equal, NotEqual}
use Rattle.ob_base.specs.declared.syntax.Prefix.{Prefix}
use Rattle.ob_expr.specs.declared.typed.Aggregate.{Aggregate}
use Rattle.ob_expr.specs.declared.typed.Aggregate.TheVariants.{Count}
use Rattle.ob_expr.specs.declared.typed.Link.{Link}
use Rattle.ob_expr.specs.Chain.{and_then, each}
use Rattle.ob_expr.specs.Functions.{function_of}
use Rattle.ob_base.specs.Syntax.{Tree, Arguments, no_arguments, argument, offset_of_tree}
use Rattle.ob_base.specs.Syntax.{integer as an_integer, a_text as some_text, truth as a_truth, unset as an_unset, path as a_path, prefix as a_prefix, binary as a_binary, call as a_call}
use Rattle.ob_expr.specs.Kinds.{can_be_unset, same_kind}
use Rattle.ob_expr.specs.Route.{Route, through, behind}
use Rattle.ob_expr.specs.TypedTree.{TypedTree, all_of, EachPath, row_id, integer, a_text, truth, unset, path, prefix, binary, chosen, choice, joined, digits, over, kind_of, prefix_kind, takes, gathers}

-- the link of a delegated field
abbrev pub links_of : Option (FieldNo × ModelNo) → List Link
links_of None = []
links_of (Some via) = record { field = via.0; target = via.1 } ∷ []

-- what one name stands for, as a path of its own
abbrev pub step_route : Found → Route
step_route found = record { links = links_of found.via; field = found.field; kind = found.kind }

-- what a name stands for, where it may be used
abbrev pub step_of : ℕ → Option Found → Result Route TypeFault
step_of at None = Err (fault.Name at)
step_of at (Some found) = if found.usable then Ok (step_route found) else Err (fault.Name at)

-- a path goes on behind a reference alone
abbrev pub step_on : ℕ → (ModelNo → Result Route TypeFault) → Route → Kind → Result Route TypeFault
step_on at rest step (kind.Ref target) = and_then (rest target) (λ end. Ok (behind (through step target) end))
step_on at rest step _ = Err (fault.Kind at)

-- the name `id` alone is the id of the row
abbrev pub is_row_id : List (List ℕ) → Bool
is_row_id (name ∷ []) = bytes_eq name (codes "id")
is_row_id _ = false

-- `unset`, of the kind of what it stands beside
abbrev pub unset_beside : ℕ → TypedTree → Result TypedTree TypeFault
unset_beside at tree = if can_be_unset (kind_of tree) then Ok (unset (kind_of tree)) else Err (fault.Kind at)

-- two operands of one kind, or one beside `unset`, which has no kind of its own
abbrev pub beside : ℕ → Option TypedTree → Option TypedTree → Result (TypedTree × TypedTree) TypeFault
beside at (Some a) (Some b) = if same_kind (kind_of a) (kind_of b) then Ok (a, b) else Err (fault.Kind at)
beside at (Some a) None = and_then (unset_beside at a) (λ u. Ok (a, u))
beside at None (Some b) = and_then (unset_beside at b) (λ u. Ok (u, b))
beside at None None = Err (fault.Kind at)

-- two operands of one kind
abbrev pub both : ℕ → Option TypedTree → Option TypedTree → Result (TypedTree × TypedTree) TypeFault
both at (Some a) (Some b) = if same_kind (kind_of a) (kind_of b) then Ok (a, b) else Err (fault.Kind at)
both at _ _ = Err (fault.Kind at)

-- `unset` stands beside `=` and `!=` alone
abbrev pub operands_of : ℕ → Operator → Option TypedTree → Option TypedTree → Result (TypedTree × TypedTree) TypeFault
operands_of at Equal = beside at
operands_of at NotEqual = beside at
operands_of at _ = both at

-- a part of the kind
abbrev pub of_kind : ℕ → Kind → Option TypedTree → Result TypedTree TypeFault
of_kind at k None = Err (fault.Kind at)
of_kind at k (Some tree) = if same_kind (kind_of tree) k then Ok tree else Err (fault.Kind at)

abbrev pub prefixed : ℕ → Prefix → Option TypedTree → Result (Option TypedTree) TypeFault
prefixed at word part = and_then (of_kind at (prefix_kind word) part) (λ inner. Ok (Some (prefix word inner)))

abbrev pub operated : ℕ → Operator → Option TypedTree → Option TypedTree → Result (Option TypedTree) TypeFault
operated at op left right = and_then (operands_of at op left right) (λ two. if takes op (kind_of two.0) then Ok (Some (binary op two.0 two.1)) else Err (fault.Kind at))

-- a call by its function and its checked arguments
abbrev pub called : ℕ → Option Function → List (Option TypedTree) → Result (Option TypedTree) TypeFault
called at None parts = Err (fault.Name at)
called at (Some function.If) (c ∷ a ∷ b ∷ []) = and_then (of_kind at kind.Bool c) (λ c. and_then (beside at a b) (λ two. Ok (Some (choice c two.0 two.1))))
called at (Some function.Cat) parts = and_then (each (of_kind at kind.Word) parts) (λ texts. Ok (Some (joined (all_of texts))))
called at (Some function.Text) (n ∷ []) = and_then (of_kind at kind.Int n) (λ n. Ok (Some (digits n)))
called at (Some (function.Chosen which)) (a ∷ b ∷ []) = and_then (of_kind at kind.Int a) (λ a. and_then (of_kind at kind.Int b) (λ b. Ok (Some (chosen which a b))))
called at (Some _) _ = Err (fault.Kind at)

-- what is made of the targets alone: `count` counts them all
abbrev pub counted : ℕ → Aggregate → Route → ModelNo → Result (Option TypedTree) TypeFault
counted at Count route target = Ok (Some (over Count route target (truth true)))
counted at _ route target = Err (fault.Kind at)

-- what is made of the values at the targets
abbrev pub gathered : ℕ → Aggregate → Route → ModelNo → Option TypedTree → Result (Option TypedTree) TypeFault
gathered at aggregate route target None = Err (fault.Kind at)
gathered at aggregate route target (Some inner) = if gathers aggregate (kind_of inner) then Ok (Some (over aggregate route target inner)) else Err (fault.Kind at)

-- the rows that a path to rows of a model leads to, with their model
abbrev pub targets_along : ℕ → Route → Kind → Result (Route × ModelNo) TypeFault
targets_along at route (kind.Refs target) = Ok (route, target)
targets_along at route _ = Err (fault.Kind at)

-- a path alone leads to targets
abbrev pub targets_of : ℕ → Option TypedTree → Result (Route × ModelNo) TypeFault
targets_of at (Some (path route)) = targets_along at route route.kind
targets_of at _ = Err (fault.Kind at)

-- a call: over targets, or of checked arguments
abbrev pub by_function : ℕ → Option Function → Result (List (Option TypedTree)) TypeFault → (Aggregate → Result (Option TypedTree) TypeFault) → Result (Option TypedTree) TypeFault
by_function at (Some (function.Over aggregate)) parts over_targets = over_targets aggregate
by_function at f parts over_targets = and_then parts (called at f)

-- a whole expression has a kind of its own
abbrev pub whole : ℕ → Option TypedTree → Result TypedTree TypeFault
whole at None = Err (fault.Kind at)
whole at (Some tree) = Ok tree

module _ (finds : ModelNo → List ℕ → Option Found) where
  -- the path that names stand for from a model on
  abbrev pub route_of : ℕ → ModelNo → List (List ℕ) → Result Route TypeFault
  route_of at model [] = Err (fault.Name at)
  route_of at model (name ∷ []) = step_of at (finds model name)
  route_of at model (name ∷ next ∷ names) = and_then (step_of at (finds model name)) (λ step. step_on at (λ target. route_of at target (next ∷ names)) step step.kind)

  -- the checked tree, none for `unset`, or the first wrong part: parts come before the whole, from the left
  abbrev mutual
    pub part_of : ModelNo → Tree → Result (Option TypedTree) TypeFault
    part_of model (an_integer n at) = Ok (Some (integer n))
    part_of model (some_text bytes at) = Ok (Some (a_text bytes))
    part_of model (a_truth b at) = Ok (Some (truth b))
    part_of model (an_unset at) = Ok None
    part_of model (a_path names at) = if is_row_id names then Ok (Some row_id) else and_then (route_of at model names) (λ route. Ok (Some (path route)))
    part_of model (a_prefix word inner at) = and_then (part_of model inner) (prefixed at word)
    part_of model (a_binary op left right at) = and_then (part_of model left) (λ a. and_then (part_of model right) (operated at op a))
    part_of model (a_call name given at) = by_function at (function_of name) (parts_of model given) (λ aggregate. part_over aggregate model given at)

    -- a function over targets has its second argument in the targets' model
    pub part_over : Aggregate → ModelNo → Arguments → ℕ → Result (Option TypedTree) TypeFault
    part_over aggregate model no_arguments at = Err (fault.Kind at)
    part_over aggregate model (argument first rest) at = and_then (part_of model first) (λ part. and_then (targets_of at part) (λ to. part_gathered aggregate to.0 to.1 rest at))

    pub part_gathered : Aggregate → Route → ModelNo → Arguments → ℕ → Result (Option TypedTree) TypeFault
    part_gathered aggregate route target no_arguments at = counted at aggregate route target
    part_gathered aggregate route target (argument inner no_arguments) at = and_then (part_of target inner) (gathered at aggregate route target)
    part_gathered aggregate route target (argument inner (argument third rest)) at = and_then (part_of target inner) (λ _. Err (fault.Kind at))

    pub parts_of : ModelNo → Arguments → Result (List (Option TypedTree)) TypeFault
    parts_of model no_arguments = Ok []
    parts_of model (argument tree rest) = and_then (part_of model tree) (λ part. and_then (parts_of model rest) (λ parts. Ok (part ∷ parts)))

  -- the checked tree of a whole expression: `unset` alone is none
  abbrev pub typed_of : ModelNo → Tree → Result TypedTree TypeFault
  typed_of model tree = and_then (part_of model tree) (whole (offset_of_tree tree))

  -- some names stand for the path
  abbrev pub IsFound : ModelNo → Route → Type 0
  IsFound model route = (names : List (List ℕ)) × (route_of 0 model names ≡ Ok route)

  -- each path is one that names stand for from a model on; over targets, from theirs
  abbrev pub AreFound : ModelNo → TypedTree → Type 0
  AreFound model tree = EachPath IsFound model tree
