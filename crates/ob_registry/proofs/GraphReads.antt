-- How the graph of formulas is made: node by node, and the reads of a node path by path.
use Rattle.std.proofs.Common.{◌≡◌, ◌≢◌, ◌⊎◌, ℕ, zero, suc, ◌+◌, ◌<◌, List, [], ◌∷◌, ◌++◌, length, length-append, get_or, map, Option, Some, inl, inr, refl, sym, ap, subst, ◌∙◌, arith}
use Rattle.std.proofs.Math.ListN.{get_or-map}
use Rattle.std.proofs.lemmas.Bool.{cases_lt}
use Rattle.std.proofs.lemmas.List.{get_or_append_left, length-map}
use Rattle.std.proofs.lemmas.List.Elements.{Contains-append_left, Contains-push, Contains-push_cases}
use Rattle.std.proofs.lemmas.List.Quantifiers.{Any-push}
use Rattle.std.proofs.lemmas.Option.{get_or_from_slice_get, same_Some, slice_get-get_or, slice_get_within}
use Rattle.std.specs.Prelude.{◌↔◌, Any, Contains, IsSomeAnd, Vec, slice_get}
use Rattle.std.specs.declared.alloc.Global.{Global}
use Rattle.ob_definition.specs.Gathered.{Gathered}
use Rattle.ob_registry.specs.declared.graph.Graph.{Graph}
use Rattle.ob_registry.specs.declared.formulas.DraftFormula.{DraftFormula}
use Rattle.ob_schema.specs.declared.info.Path.{Path}
use Rattle.ob_schema.specs.declared.info.Step.{Step}
use Rattle.ob_registry.specs.Graphs.{AreStarts, IsGraph, IsReadBy, IsReadOn, NodeReads, all_steps}
use Rattle.ob_schema.specs.Paths.{EndsIn}
use Rattle.ob_schema.specs.Strata.{IsComputedAt, IsPathOf, ReadsAnother}
use Rattle.ob_registry.specs.Telling.{steps_in}
use Rattle.ob_registry.proofs.Heights.{Contains-from_reads, NodeReads-from}
use Rattle.ob_registry.proofs.Readings.{from_some, node_once, some_and}
use Rattle.ob_registry.proofs.Steps.{slice_get-joined, slice_get-left, slice_get-right}
use Rattle.ob_schema.proofs.CallerLemmas.{contains-none}

-- one of more elements
any_left : {X : Type 0} (P : X → Type 0) (xs : List X) (y : X) → Any P xs → Any P (xs ++ y ∷ [])
any_left P xs y (k, x, inside, is, held) = (k, x, omega (arith, inside, length-append xs (y ∷ [])), get_or_append_left xs (y ∷ []) x k inside ∙ is, held)

any_cases : {X : Type 0} (P : X → Type 0) (xs : List X) (y : X) → Any P (xs ++ y ∷ []) → Any P xs ⊎ P y
any_cases P xs y (k, x, inside, is, held) = elim (Contains-push_cases xs y x (k, inside, is)) as (λ _. Any P xs ⊎ P y) [ inl old ↦ inl (old.0, x, old.1, old.2, held) | inr same ↦ inr (subst P (sym same) held) ]

-- none of none
any_none : {X : Type 0} (P : X → Type 0) → Any P [] → ⊥
any_none P (k, x, inside, is, held) = absurd (omega arith)

-- the nodes that paths read, one node left out
abbrev pub AreRead : List Gathered → List Step → ℕ → List Path → List ℕ → Type 0
AreRead models steps node paths reads = (b : ℕ) → Contains reads b ↔ ((b ≢ node) × Any (λ path. IsReadOn models steps path.steps b) paths)

-- no path reads none
pub AreRead-none : (models : List Gathered) (steps : List Step) (node : ℕ) → AreRead models steps node [] []
AreRead-none models steps node b = (λ among. absurd (contains-none b among), λ found. absurd (any_none (λ (path : Path). IsReadOn models steps path.steps b) found.1))

module _ (models : List Gathered) (steps : List Step) (node : ℕ) (paths : List Path) (reads : List ℕ) (path : Path) (are : AreRead models steps node paths reads) where
  -- a path that reads no other node
  pub AreRead-kept : ((b : ℕ) → b ≢ node → IsReadOn models steps path.steps b → ⊥) → AreRead models steps node (paths ++ path ∷ []) reads
  AreRead-kept none b = (
    λ among. let found = (are b).0 among in (found.0, any_left (λ (p : Path). IsReadOn models steps p.steps b) paths path found.1),
    λ found. elim (any_cases (λ (p : Path). IsReadOn models steps p.steps b) paths path found.1) as (λ _. Contains reads b) [ inl old ↦ (are b).1 (found.0, old) | inr here ↦ absurd (none b found.0 here) ],
  )

  -- a path that reads another
  pub AreRead-new : (read : ℕ) → read ≢ node → ((b : ℕ) → ◌≡◌ {A = Option ℕ} (Some read) (Some b) ↔ IsReadOn models steps path.steps b) → AreRead models steps node (paths ++ path ∷ []) (reads ++ read ∷ [])
  AreRead-new read other one b = (
    λ among. elim (Contains-push_cases reads read b among) as (λ _. (b ≢ node) × Any (λ (p : Path). IsReadOn models steps p.steps b) (paths ++ path ∷ [])) [
      | inl old ↦ (let found = (are b).0 old in (found.0, any_left (λ (p : Path). IsReadOn models steps p.steps b) paths path found.1))
      | inr same ↦ (λ e. other (same ∙ e), Any-push (λ (p : Path). IsReadOn models steps p.steps b) paths path ((one b).0 (ap Some same)))
    ],
    λ found. elim (any_cases (λ (p : Path). IsReadOn models steps p.steps b) paths path found.1) as (λ _. Contains (reads ++ read ∷ []) b) [
      | inl old ↦ Contains-append_left reads (read ∷ []) b ((are b).1 (found.0, old))
      | inr here ↦ subst (λ (n : ℕ). Contains (reads ++ read ∷ []) n) (same_Some read b ((one b).1 here)) (Contains-push reads read)
    ],
  )

-- an element of a list of values
at_map : {X Y : Type 0} (f : X → Y) (xs : List X) (k : ℕ) (y : Y) → slice_get (map f xs) k ≡ Some y → (x : X) × (slice_get xs k ≡ Some x) × (f x ≡ y)
at_map f [] k y at = absurd (cc)
at_map f (x ∷ xs) zero y at = (x, refl, same_Some (f x) y at)
at_map f (x ∷ xs) (suc k) y at = at_map f xs k y at

-- the node of one field reads that of another which the field reads
abbrev pub NodeReadsAnother : List Gathered → List Step → ℕ → ℕ → Type 0
NodeReadsAnother models steps a b = (own : Step) × (other : Step) × (slice_get steps a ≡ Some own) × (slice_get steps b ≡ Some other) × ReadsAnother models own other

module _ (models : List Gathered) (steps : List Step) (all : steps ≡ all_steps models) (node : ℕ) (own : Step) (at : slice_get steps node ≡ Some own) (formula : Option DraftFormula)
    (paths : (path : List Step) → IsPathOf models own path ↔ IsSomeAnd formula (λ f. Contains (steps_in f.depends) path)) where
  -- what the formula of a field reads is what the field reads
  pub NodeReadsAnother-from : (b : ℕ) → (b ≢ node) × IsReadBy models steps formula b → NodeReadsAnother models steps node b
  NodeReadsAnother-from b (apart, by) =
      let found = some_and formula (λ f. Any (λ path. IsReadOn models steps path.steps b) f.depends) by in
      let any = found.2 in
      let path = any.1 in
      let read = some_and (slice_get steps b) (λ (s : Step). IsComputedAt models s × EndsIn path.steps s) any.4 in
      let other = read.0 in
      let ends = read.2.1 in
      let among : Contains (steps_in found.0.depends) path.steps =
      (any.0, omega (arith, any.2, length-map found.0.depends (λ (p : Path). p.steps)), get_or-map (λ (p : Path). p.steps) found.0.depends any.0 path ∙ ap (λ (p : Path). p.steps) any.3) in
      let is_path = (paths path.steps).1 (from_some formula (λ f. Contains (steps_in f.depends) path.steps) found.0 found.1 among) in
      (own, other, at, read.1, ((read.2.0, (ends.0, subst (λ (l : List Step). IsPathOf models own l) ends.1 is_path)), λ e. apart (node_once models steps all b node other read.1 (at ∙ ap Some e))))

  -- and the other way round
  pub NodeReadsAnother-to : (b : ℕ) → NodeReadsAnother models steps node b → (b ≢ node) × IsReadBy models steps formula b
  NodeReadsAnother-to b (mine, other, mine_at, other_at, ((computed, (front, is_path)), apart)) =
      let same : mine ≡ own = same_Some mine own (sym mine_at ∙ at) in
      let path = front ++ other ∷ [] in
      let found = some_and formula (λ f. Contains (steps_in f.depends) path) ((paths path).0 (subst (λ (s : Step). IsPathOf models s path) same is_path)) in
      let among = found.2 in
      let here = at_map (λ (p : Path). p.steps) found.0.depends among.0 path (slice_get_at (steps_in found.0.depends) among.0 path among.1 among.2) in
      let read : IsReadOn models steps here.0.steps b = from_some (slice_get steps b) (λ (s : Step). IsComputedAt models s × EndsIn here.0.steps s) other other_at (computed, (front, here.2)) in (
        λ e. apart (same_Some mine other (sym mine_at ∙ ap (slice_get steps) (sym e) ∙ other_at)),
        from_some formula (λ f. Any (λ path. IsReadOn models steps path.steps b) f.depends) found.0 found.1
            (among.0, here.0, slice_get_within found.0.depends among.0 here.0 here.1, get_or_from_slice_get found.0.depends among.0 here.0 here.0 here.1, read),
      )
    where
      slice_get_at : {X : Type 0} (xs : List X) (k : ℕ) (x : X) → k < length xs → get_or xs k x ≡ x → slice_get xs k ≡ Some x
      slice_get_at xs k x inside is = slice_get-get_or xs k x inside ∙ ap Some is

-- the first nodes read what they should
pub record IsReadUpto (models : List Gathered) (steps : List Step) (node : ℕ) (reads : List (Vec ℕ Global)) : Type 0 where
  pub count : length reads ≡ node
  pub each : (a b : ℕ) → a < node → NodeReads reads a b ↔ NodeReadsAnother models steps a b

-- one node more
pub IsReadUpto-more : (models : List Gathered) (steps : List Step) (node : ℕ) (reads : List (Vec ℕ Global)) (row : Vec ℕ Global) → IsReadUpto models steps node reads
    → ((b : ℕ) → Contains row.items b ↔ NodeReadsAnother models steps node b) → IsReadUpto models steps (node + 1) (reads ++ row ∷ [])
IsReadUpto-more models steps node reads row upto one = record {
  count = length-append reads (row ∷ []) ∙ ap (λ n. n + 1) upto.count;
  each = λ a b before. elim (cases_lt a node) as (λ _. NodeReads (reads ++ row ∷ []) a b ↔ NodeReadsAnother models steps a b) [
    | inl lower ↦ (λ is. (upto.each a b lower).0 (shorter a b (omega (arith, lower, upto.count)) is), λ is. longer a b ((upto.each a b lower).1 is))
    | inr last ↦ (let same : node ≡ a = omega arith in subst (λ n. NodeReads (reads ++ row ∷ []) n b ↔ NodeReadsAnother models steps n b) same
        (λ is. (one b).0 (Contains-from_reads (reads ++ row ∷ []) node b row here is), λ is. NodeReads-from (reads ++ row ∷ []) node b row here ((one b).1 is)))
  ];
}
  where
    here : slice_get (reads ++ row ∷ []) node ≡ Some row
    here = slice_get-right reads (row ∷ []) 0 node (omega (arith, upto.count))

    longer : (a b : ℕ) → NodeReads reads a b → NodeReads (reads ++ row ∷ []) a b
    longer a b is = let found = some_and (slice_get reads a) (λ v. Contains v.items b) is in NodeReads-from (reads ++ row ∷ []) a b found.0 (slice_get-left reads (row ∷ []) a found.0 found.1) found.2

    shorter : (a b : ℕ) → a < length reads → NodeReads (reads ++ row ∷ []) a b → NodeReads reads a b
    shorter a b inside is =
        let found = some_and (slice_get (reads ++ row ∷ []) a) (λ v. Contains v.items b) is in
        elim (slice_get-joined reads (row ∷ []) a found.0 found.1) as (λ _. NodeReads reads a b) [
          | inl left ↦ NodeReads-from reads a b found.0 left.1 found.2
          | inr right ↦ absurd (omega (arith, inside, right.1))
        ]

-- the graph, when all do
pub IsGraph-from : (models : List Gathered) (graph : Graph) → graph.steps.items ≡ all_steps models → AreStarts graph.steps.items graph.starts.items
    → IsReadUpto models graph.steps.items (length graph.steps.items) graph.reads.items → IsGraph models graph
IsGraph-from models graph steps starts upto = record {
  steps = steps;
  starts = subst (λ l. AreStarts l graph.starts.items) steps starts;
  count = upto.count ∙ ap length steps;
  within = λ a b is. (let found = (upto.each a b (node_within a b is)).0 is in slice_get_within (all_steps models) b found.1 (carried b found.1 found.3));
  reads = λ a b own other at_own at_other. (
    λ is. let found = (upto.each a b (node_within a b is)).0 is in
        let mine = same_Some found.0 own (sym (carried a found.0 found.2) ∙ at_own) in
        let theirs = same_Some found.1 other (sym (carried b found.1 found.3) ∙ at_other) in
        subst (λ s. ReadsAnother models s other) mine (subst (λ s. ReadsAnother models found.0 s) theirs found.4),
    λ reads. (upto.each a b (let inside = slice_get_within (all_steps models) a own at_own in omega (arith, inside, ap length steps))).1
        (own, other, back a own at_own, back b other at_other, reads),
  );
}
  where
    carried : (a : ℕ) (s : Step) → slice_get graph.steps.items a ≡ Some s → slice_get (all_steps models) a ≡ Some s
    carried a s at = subst (λ l. slice_get l a ≡ Some s) steps at

    back : (a : ℕ) (s : Step) → slice_get (all_steps models) a ≡ Some s → slice_get graph.steps.items a ≡ Some s
    back a s at = subst (λ l. slice_get l a ≡ Some s) (sym steps) at

    node_within : (a b : ℕ) → NodeReads graph.reads.items a b → a < length graph.steps.items
    node_within a b is = let found = some_and (slice_get graph.reads.items a) (λ v. Contains v.items b) is in let inside = slice_get_within graph.reads.items a found.0 found.1 in omega (arith, inside, upto.count)
