-- What is wrong with declared paths, and with what is read, as it is told of one after another.
use Rattle.std.proofs.Common.{◌≡◌, ℕ, ◌+◌, ◌<◌, Bool, true, false, not, List, [], ◌∷◌, ◌++◌, append-nil, length, get_or, map, take, Option, Some, Result, Ok, Err, refl, sym, ap, subst, ◌∙◌}
use Rattle.std.specs.Prelude.{Any, Contains, Vec}
use Rattle.std.specs.Bool.{then_some}
use Rattle.std.specs.Borrow.{Bor}
use Rattle.std.specs.declared.alloc.Global.{Global}
use Rattle.std.proofs.lemmas.Bool.{false≢true}
use Rattle.std.proofs.lemmas.List.{map-append}
use Rattle.ob_base.specs.declared.id.ModelNo.{ModelNo}
use Rattle.ob_definition.specs.declared.fault.SchemaFault.{SchemaFault}
use Rattle.ob_definition.specs.declared.fault.Spot.{Spot}
use Rattle.ob_definition.specs.declared.wrong.Wrong.{Wrong}
use Rattle.ob_definition.specs.declared.wrong.Wrong.TheVariants as wrong
use Rattle.ob_definition.specs.Findings.{Adds, IsAt, IsFaultAt, Tells}
use Rattle.ob_definition.specs.Gathered.{Gathered}
use Rattle.ob_definition.proofs.CallerLemmas.{Adds-more, Adds-none, Adds-tells, next_front}
use Rattle.ob_schema.specs.declared.info.Path.{Path}
use Rattle.ob_schema.specs.declared.info.Step.{Step}
use Rattle.ob_registry.specs.declared.model.Role.{Role as KeptRole}
use Rattle.ob_registry.specs.declared.model.Role.TheVariants as kept
use Rattle.ob_registry.specs.ModelFields.{role_of}
use Rattle.ob_schema.specs.Formulas.{IsCovered, good_paths, paths_by_role}
use Rattle.ob_schema.specs.Paths.{PathFault, no_field, no_step, path_from}
use Rattle.ob_registry.specs.Telling.{IsCoverWrong, IsPathWrong, names_in, path_wrong, paths_by_names, steps_in, texts_in, told_path}
use Rattle.ob_schema.proofs.CallerLemmas.{Any-none, Tells-none, Tells-one}

-- a path that is one has nothing wrong
pub path_right : (path : Result (List Step) PathFault) (steps : List Step) → path ≡ Ok steps → (w : Wrong) → IsPathWrong path w → ⊥
path_right path steps is wrong.Field e = let b : ◌≡◌ {A = Result (List Step) PathFault} (Ok steps) (Err no_field) = sym is ∙ e in cc
path_right path steps is wrong.Path e = let b : ◌≡◌ {A = Result (List Step) PathFault} (Ok steps) (Err no_step) = sym is ∙ e in cc
path_right path steps is _ e = e

-- what is told of a path is what is wrong with it
told_field : (w : Wrong) → IsPathWrong (Err no_field) w → w ≡ wrong.Field
told_field wrong.Field e = refl
told_field wrong.Path e = absurd (let b : ◌≡◌ {A = Result (List Step) PathFault} (Err no_field) (Err no_step) = e in let c : no_field ≡ no_step = cc in cc)
told_field _ e = absurd e

told_step : (w : Wrong) → IsPathWrong (Err no_step) w → w ≡ wrong.Path
told_step wrong.Field e = absurd (let b : ◌≡◌ {A = Result (List Step) PathFault} (Err no_step) (Err no_field) = e in let c : no_step ≡ no_field = cc in cc)
told_step wrong.Path e = refl
told_step _ e = absurd e

pub path_told : (path : Result (List Step) PathFault) (w : Wrong) → told_path path ≡ Err w → Tells (IsPathWrong path) (Some w)
path_told (Ok steps) w e = absurd (let b : ◌≡◌ {A = Result Path Wrong} (Ok (record { steps = steps })) (Err w) = e in cc)
path_told (Err no_field) w e = let same : wrong.Field ≡ w = cc in subst (λ (v : Wrong). Tells (IsPathWrong (Err no_field)) (Some v)) same (Tells-one (IsPathWrong (Err no_field)) wrong.Field refl told_field)
path_told (Err no_step) w e = let same : wrong.Path ≡ w = cc in subst (λ (v : Wrong). Tells (IsPathWrong (Err no_step)) (Some v)) same (Tells-one (IsPathWrong (Err no_step)) wrong.Path refl told_step)

pub path_good : (path : Result (List Step) PathFault) (p : Path) → told_path path ≡ Ok p → path ≡ Ok p.steps
path_good (Ok steps) p e = let made : Path = record { steps = steps } in let same : made ≡ p = cc in ap (λ (q : Path). Ok q.steps) same
path_good (Err why) p e = absurd (let b : ◌≡◌ {A = Result Path Wrong} (Err (path_wrong why)) (Ok p) = e in cc)

-- the paths that are some, with one more
good_paths-push : (all : List (Result (List Step) PathFault)) (one : Result (List Step) PathFault) → good_paths (all ++ one ∷ []) ≡ good_paths all ++ good_paths (one ∷ [])
good_paths-push [] one = refl
good_paths-push (Ok steps ∷ all) one = ap (λ l. steps ∷ l) (good_paths-push all one)
good_paths-push (Err why ∷ all) one = good_paths-push all one

-- the names of one path more
pub names_more : (paths : List (Vec (Bor (List ℕ)) Global)) (i : ℕ) (names : Vec (Bor (List ℕ)) Global) → i < length paths → names ≡ get_or paths i names
    → names_in (take (i + 1) paths) ≡ names_in (take i paths) ++ texts_in names.items ∷ []
names_more paths i names within is =
    ap names_in (sym (next_front paths i names within is)) ∙ map-append (λ (n : Vec (Bor (List ℕ)) Global). texts_in n.items) (take i paths) (names ∷ [])

module _ (models : List Gathered) (number : ModelNo) (spot : Spot) where
  abbrev PathRoom : List (List ℕ) → SchemaFault → Type 0
  PathRoom path why = IsFaultAt spot (IsPathWrong (path_from models number path)) why

  good-push : (names : List (List (List ℕ))) (one : List (List ℕ)) → paths_by_names models number (names ++ one ∷ []) ≡ paths_by_names models number names ++ good_paths (path_from models number one ∷ [])
  good-push names one = ap good_paths (map-append (path_from models number) names (one ∷ [])) ∙ good_paths-push (map (path_from models number) names) (path_from models number one)

  -- one more path, which is one
  pub more_good : (names : List (List (List ℕ))) (one : List (List ℕ)) (p : Path) (declared : List Path) → told_path (path_from models number one) ≡ Ok p → steps_in declared ≡ paths_by_names models number names
      → steps_in (declared ++ p ∷ []) ≡ paths_by_names models number (names ++ one ∷ [])
  more_good names one p declared told so =
      map-append (λ (q : Path). q.steps) declared (p ∷ []) ∙ ap (λ (l : List (List Step)). l ++ p.steps ∷ []) so
      ∙ sym (good-push names one ∙ ap (λ (r : Result (List Step) PathFault). paths_by_names models number names ++ good_paths (r ∷ [])) (path_good (path_from models number one) p told))

  -- or which is none
  pub more_bad : (names : List (List (List ℕ))) (one : List (List ℕ)) (w : Wrong) (declared : List (List Step)) → told_path (path_from models number one) ≡ Err w → declared ≡ paths_by_names models number names
      → declared ≡ paths_by_names models number (names ++ one ∷ [])
  more_bad names one w declared told so = so ∙ sym (good-push names one ∙ by (path_from models number one) told)
    where
      by : (r : Result (List Step) PathFault) → told_path r ≡ Err w → paths_by_names models number names ++ good_paths (r ∷ []) ≡ paths_by_names models number names
      by (Ok steps) e = absurd (let b : ◌≡◌ {A = Result Path Wrong} (Ok (record { steps = steps })) (Err w) = e in cc)
      by (Err why) e = append-nil (paths_by_names models number names)

  -- what is found of it
  pub found_good : (names : List (List (List ℕ))) (one : List (List ℕ)) (p : Path) (a b : Option SchemaFault) → told_path (path_from models number one) ≡ Ok p
      → Adds (λ why. Any (λ path. IsFaultAt spot (IsPathWrong (path_from models number path)) why) names) a b
      → Adds (λ why. Any (λ path. IsFaultAt spot (IsPathWrong (path_from models number path)) why) (names ++ one ∷ [])) a b
  found_good names one p a b told so =
      Adds-more PathRoom names one a b b so (Adds-none (PathRoom one) b (λ why f. path_right (path_from models number one) p.steps (path_good (path_from models number one) p told) f.0 f.1))

  pub found_bad : (names : List (List (List ℕ))) (one : List (List ℕ)) (w : Wrong) (a b c : Option SchemaFault) → told_path (path_from models number one) ≡ Err w
      → Adds (λ why. Any (λ path. IsFaultAt spot (IsPathWrong (path_from models number path)) why) names) a b
      → Adds (IsAt (Some w) spot) b c → Adds (λ why. Any (λ path. IsFaultAt spot (IsPathWrong (path_from models number path)) why) (names ++ one ∷ [])) a c
  found_bad names one w a b c told so now =
      Adds-more PathRoom names one a b c so (Adds-tells (IsPathWrong (path_from models number one)) (Some w) spot b c (path_told (path_from models number one) w told) now)

-- what is told of a path that is read
cover_only : (paths : List (List Step)) (read : List Step) (w : Wrong) → IsCoverWrong paths read w → w ≡ wrong.Path
cover_only paths read wrong.Path h = refl
cover_only paths read _ h = absurd h

cover_right : (paths : List (List Step)) (read : List Step) → IsCovered paths read → (w : Wrong) → IsCoverWrong paths read w → ⊥
cover_right paths read is wrong.Path h = h is
cover_right paths read is _ h = h

pub cover_told : (paths : List (List Step)) (read : List Step) (covered : Bool) → (covered ≡ true → IsCovered paths read) × (IsCovered paths read → covered ≡ true)
    → Tells (IsCoverWrong paths read) (then_some (not covered) wrong.Path)
cover_told paths read true is = Tells-none (IsCoverWrong paths read) (cover_right paths read (is.0 refl))
cover_told paths read false is = Tells-one (IsCoverWrong paths read) wrong.Path (λ covered. false≢true (is.1 covered)) (cover_only paths read)

pub steps_more : (paths : List Path) (i : ℕ) (path : Path) → i < length paths → path ≡ get_or paths i path → steps_in (take (i + 1) paths) ≡ steps_in (take i paths) ++ path.steps ∷ []
steps_more paths i path within is = ap steps_in (sym (next_front paths i path within is)) ∙ map-append (λ (p : Path). p.steps) (take i paths) (path ∷ [])

pub found_read : (spot : Spot) (declared : List (List Step)) (reads : List (List Step)) (read : List Step) (told : Option Wrong) (a b c : Option SchemaFault) → Tells (IsCoverWrong declared read) told
    → Adds (λ why. Any (λ read. IsFaultAt spot (IsCoverWrong declared read) why) reads) a b → Adds (IsAt told spot) b c → Adds (λ why. Any (λ read. IsFaultAt spot (IsCoverWrong declared read) why) (reads ++ read ∷ [])) a c
found_read spot declared reads read told a b c tells so now =
    Adds-more (λ read why. IsFaultAt spot (IsCoverWrong declared read) why) reads read a b c so (Adds-tells (IsCoverWrong declared read) told spot b c tells now)

pub found_none : {X : Type 0} (P : X → SchemaFault → Type 0) (a : Option SchemaFault) → Adds (λ why. Any (λ x. P x why) []) a a
found_none P a = Adds-none (λ why. Any (λ x. P x why) []) a (λ why any. Any-none (λ x. P x why) any)

-- a condition's paths are those that it reads: they cover themselves
covers_itself : (reads : List (List Step)) (read : List Step) → Contains reads read → IsCovered reads read
covers_itself reads read (k, within, is) = (k, read, within, is, ([], sym (append-nil read)))

pub found_itself : (spot : Spot) (reads : List (List Step)) (a : Option SchemaFault) → Adds (λ why. Any (λ read. IsFaultAt spot (IsCoverWrong reads read) why) reads) a a
found_itself spot reads a = Adds-none (λ why. Any (λ read. IsFaultAt spot (IsCoverWrong reads read) why) reads) a none
  where
    none : (why : SchemaFault) → Any (λ read. IsFaultAt spot (IsCoverWrong reads read) why) reads → ⊥
    none why (k, read, within, is, (w, h, e)) = cover_right reads read (covers_itself reads read (k, within, is)) w h

-- the paths by a role
pub hidden_reads : (role : KeptRole) (reads good : List (List Step)) → role ≡ kept.Hidden → reads ≡ paths_by_role (role_of role) reads good
hidden_reads role reads good is = ap (λ (r : KeptRole). paths_by_role (role_of r) reads good) (sym is)

pub others_declare : (role : KeptRole) (reads good : List (List Step)) → (role ≡ kept.Hidden → ⊥) → good ≡ paths_by_role (role_of role) reads good
others_declare kept.Own reads good apart = refl
others_declare (kept.Delegated i) reads good apart = refl
others_declare kept.Hidden reads good apart = absurd (apart refl)
