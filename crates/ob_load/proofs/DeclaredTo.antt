-- What the modules so far declare, as a part of what all do.
use Rattle.std.proofs.Common.{◌≡◌, ℕ, zero, suc, ◌+◌, ◌≤◌, true, List, [], ◌∷◌, ◌++◌, length, map, take, drop, All, Option, None, Some, refl, sym, ap, subst, append_assoc, ◌∙◌, arith}
use Rattle.std.specs.Prelude.{IfSome, IsSome, codes, flat_map, slice_get}
use Rattle.std.proofs.lemmas.Grind.{flat_map-append}
use Rattle.std.proofs.lemmas.List.{append-nil, length-append, length-map}
use Rattle.std.proofs.lemmas.List.Elements.{All-map, All-nil, All-weaker}
use Rattle.toml.specs.Data.{Members}
use Rattle.ob_access.specs.Policies.{IsGroup, IsLineOver, IsPolicyOver, IsRuleOver, PolicyData, RuleData, field_accesses, policy_of, rule_data}
use Rattle.ob_access.specs.declared.policy.AccessLine.{AccessLine}
use Rattle.ob_access.specs.declared.policy.Group.{Group}
use Rattle.ob_access.specs.declared.policy.Rule.{Rule}
use Rattle.ob_base.specs.declared.id.RecId.{RecId}
use Rattle.ob_load.specs.Access.{declared_names, declared_policy, each_behind, entries_of, full_names, group_from, group_names, groups_in, is_among, line_from, lines_in, name_of, ref_name, ref_names, rule_from, rules_in}
use Rattle.ob_load.specs.AccessFaults.{first_fault}
use Rattle.ob_load.specs.Preset.{Ref, declared_preset, group_rows, ref_from, refs_of, rows_from, rows_in}
use Rattle.ob_module.specs.Modules.{Module}
use Rattle.ob_load.specs.Rooms.{AreBrought, AreConsistent, BringsOn, GrowsBy, HaveRows, IsGroupOf, IsLineOf, IsRuleOf}
use Rattle.ob_load.specs.RowFaults.{module_fault, modules_fault, whole_fault}
use Rattle.ob_load.specs.declared.access.Declared.{Declared}
use Rattle.ob_load.specs.declared.fault.FaultyModule.{FaultyModule}
use Rattle.ob_load.specs.declared.rows.Brought.{Brought}
use Rattle.ob_load.proofs.AccessSteps.{fault-here, fault-on, fault_from, parted-at}
use Rattle.ob_load.proofs.GroupRows.{groups-have}
use Rattle.ob_module.proofs.CallerLemmas.{element-at}
use Rattle.ob_schema.specs.Built.{numbered}
use Rattle.ob_schema.specs.Presets.{IsPreset}
use Rattle.ob_schema.specs.declared.info.ModelInfo.{ModelInfo}
use Rattle.ob_schema.specs.declared.preset.PresetRow.{PresetRow}

-- ---- with more groups

group-more : (n k : ℕ) → n ≤ k → (id : RecId) → IsGroupOf n id → IsGroupOf k id
group-more n k le id is = (is.0, omega (arith, le, is.1))

if-weaker : {X : Type 0} (P Q : X → Type 0) → ((x : X) → P x → Q x) → (o : Option X) → IfSome o P → IfSome o Q
if-weaker P Q f None is = tt
if-weaker P Q f (Some x) is = f x is

all-more : (n k : ℕ) → n ≤ k → (ids : List RecId) → All (IsGroupOf n) ids → All (IsGroupOf k) ids
all-more n k le ids is = All-weaker (IsGroupOf n) (IsGroupOf k) (group-more n k le) ids is

consistent-more : (models : List ModelInfo) (n k : ℕ) (d : Declared) → n ≤ k → AreConsistent models n d → AreConsistent models k d
consistent-more models n k d le is = record {
  apart = is.apart;
  taken = is.taken;
  implied = All-weaker (λ (g : Group). All (IsGroupOf n) g.implies) (λ (g : Group). All (IsGroupOf k) g.implies) (λ g held. all-more n k le g.implies held) d.groups is.implied;
  lines = All-weaker (IsLineOf models n) (IsLineOf models k) (λ line held. (held.0, if-weaker (IsGroupOf n) (IsGroupOf k) (group-more n k le) line.group held.1)) d.lines is.lines;
  rules = All-weaker (IsRuleOf models n) (IsRuleOf models k) (λ rule held. (held.0, if-weaker (All (IsGroupOf n)) (All (IsGroupOf k)) (all-more n k le) rule.groups held.1, held.2)) d.rules is.rules;
}

-- ---- a policy

numbered-there : (groups : List Group) (n : ℕ) → 1 ≤ n → n ≤ length groups → IsSome (numbered groups n)
numbered-there groups zero low high = absurd (omega (arith, low))
numbered-there groups (suc n) low high = let held = element-at groups n (omega (arith, high)) in subst IsSome (sym held.1) refl

group-there : (groups : List Group) (id : RecId) → IsGroupOf (length groups) id → IsGroup groups id
group-there groups id is = numbered-there groups id.0 is.0 is.1

all-there : (groups : List Group) (ids : List RecId) → All (IsGroupOf (length groups)) ids → All (IsGroup groups) ids
all-there groups ids is = All-weaker (IsGroupOf (length groups)) (IsGroup groups) (group-there groups) ids is

-- what fits together is a policy
pub policy-over : (models : List ModelInfo) (d : Declared) → AreConsistent models (length d.groups) d → IsPolicyOver models (policy_of models d.groups d.lines d.rules)
policy-over models d is = record {
  names = is.apart;
  implied = All-weaker (λ (g : Group). All (IsGroupOf (length d.groups)) g.implies) (λ (g : Group). All (IsGroup d.groups) g.implies) (λ g held. all-there d.groups g.implies held) d.groups is.implied;
  lines = All-weaker (IsLineOf models (length d.groups)) (IsLineOver models d.groups) (λ line held. (held.0, if-weaker (IsGroupOf (length d.groups)) (IsGroup d.groups) (group-there d.groups) line.group held.1)) d.lines is.lines;
  rules = All-map (IsRuleOver models d.groups) rule_data d.rules
      (All-weaker (IsRuleOf models (length d.groups)) (λ (rule : Rule). IsRuleOver models d.groups (rule_data rule))
      (λ rule held. (held.0, if-weaker (All (IsGroupOf (length d.groups))) (All (IsGroup d.groups)) (all-there d.groups) rule.groups held.1, held.2)) d.rules is.rules);
  fields = refl;
}

-- ---- module by module

module _ (models : List ModelInfo) (all : List Module) where
  -- how many rows all groups have
  abbrev pub first : ℕ
  first = length (group_rows models all)

  -- the first so many modules have groups of these names, declare this and bring this; with what those behind them declare and bring it is what all do, and nothing stands against them
  pub record IsDeclaredTo (i : ℕ) (groups : List (List ℕ)) (d : Declared) (b : Brought) : Type 0 where
    pub known : groups ≡ group_names (take i all)
    pub taken : d.names ≡ declared_names (take i all)
    pub groups_rest : d.groups ++ each_behind groups_in (take i all) (drop i all) ≡ each_behind groups_in [] all
    pub lines_rest : d.lines ++ each_behind (lines_in models) (take i all) (drop i all) ≡ each_behind (lines_in models) [] all
    pub rules_rest : map rule_data d.rules ++ each_behind (rules_in models) (take i all) (drop i all) ≡ each_behind (rules_in models) [] all
    pub count : length d.groups ≡ length groups
    pub consistent : AreConsistent models (length groups) d
    pub first_is : b.first ≡ first
    pub refs_are : b.refs ≡ refs_of models (take i all)
    pub rows_rest : b.rows ++ each_behind (rows_in models first) (take i all) (drop i all) ≡ declared_preset models all
    pub brought : AreBrought models b
    pub fits : fault_from (module_fault models first) all 0 ≡ fault_from (module_fault models first) all i

  -- no module
  pub declared-none : (d : Declared) (b : Brought) → d ≡ record { names = []; groups = []; lines = []; rules = [] } → b.first ≡ first → b.refs ≡ [] → b.rows ≡ group_rows models all → AreBrought models b → IsDeclaredTo 0 [] d b
  declared-none d b is first_is refs_are rows_are are = subst (λ (x : Declared). IsDeclaredTo 0 [] x b) (sym is) (record {
    known = refl;
    taken = refl;
    groups_rest = refl;
    lines_rest = refl;
    rules_rest = refl;
    count = refl;
    consistent = record {
      apart = λ i j e lt low. absurd (omega (arith, low));
      taken = All-nil (λ (g : Group). is_among [] g.name ≡ true);
      implied = All-nil (λ (g : Group). All (IsGroupOf 0) g.implies);
      lines = All-nil (IsLineOf models 0);
      rules = All-nil (IsRuleOf models 0);
    };
    first_is = first_is;
    refs_are = refs_are;
    rows_rest = ap (λ (l : List PresetRow). l ++ each_behind (rows_in models first) [] all) rows_are;
    brought = are;
    fits = refl;
  })

  -- what a module declares, and those behind it
  each-next : {X : Type 0} (declared : List Module → Module → List X) (i : ℕ) (m : Module) → slice_get all i ≡ Some m
      → each_behind declared (take i all) (drop i all) ≡ declared (take i all) m ++ each_behind declared (take (i + 1) all) (drop (i + 1) all)
  each-next declared i m at =
      let p = parted-at all i m at in
      ap (each_behind declared (take i all)) p.0 ∙ ap (λ before. declared (take i all) m ++ each_behind declared before (drop (i + 1) all)) (sym p.1)

  -- the lists so far, with one module more
  rest-next : {X : Type 0} (declared : List Module → Module → List X) (i : ℕ) (m : Module) → slice_get all i ≡ Some m → (old new own total : List X) → new ≡ old ++ own → own ≡ declared (take i all) m
      → old ++ each_behind declared (take i all) (drop i all) ≡ total → new ++ each_behind declared (take (i + 1) all) (drop (i + 1) all) ≡ total
  rest-next {X} declared i m at old new own total grown is rest =
      let behind = each_behind declared (take (i + 1) all) (drop (i + 1) all) in
      ap (λ (l : List X). l ++ behind) grown ∙ append_assoc old own behind ∙ ap (λ (l : List X). old ++ (l ++ behind)) is ∙ ap (λ (l : List X). old ++ l) (sym (each-next declared i m at)) ∙ rest

  -- what stands in the first so many, and in one module more
  flat-next : {X : Type 0} (part : Module → List X) (i : ℕ) (m : Module) → (old new : List X) → old ≡ flat_map part (take i all) → new ≡ old ++ part m → new ≡ flat_map part (take i all ++ m ∷ [])
  flat-next {X} part i m old new is grown =
      grown ∙ ap (λ (l : List X). l ++ part m) is ∙ ap (λ (l : List X). flat_map part (take i all) ++ l) (sym (append-nil (part m))) ∙ sym (flat_map-append part (take i all) (m ∷ []))

  module _ (i : ℕ) (m : Module) (at : slice_get all i ≡ Some m) (groups more : List (List ℕ)) (d : Declared) (b : Brought) (is : IsDeclaredTo i groups d b)
      (named : more ≡ groups ++ map (name_of m.name) (entries_of (codes "group") m.document)) where
    known_here : more ≡ group_names (take i all ++ m ∷ [])
    known_here = flat-next (full_names (codes "group")) i m groups more is.known named

    -- what stands against its document stands against the module
    here-is : (o : Option FaultyModule) → whole_fault models more b.first m.name b.refs d.names m.document ≡ o → module_fault models first (take i all) m ≡ o
    here-is o e =
        ap (λ (g : List (List ℕ)). whole_fault models g first m.name (refs_of models (take i all)) (declared_names (take i all)) m.document) (sym known_here)
        ∙ ap (λ (f : ℕ). whole_fault models more f m.name (refs_of models (take i all)) (declared_names (take i all)) m.document) (sym is.first_is)
        ∙ ap (λ (r : List Ref). whole_fault models more b.first m.name r (declared_names (take i all)) m.document) (sym is.refs_are)
        ∙ ap (λ (t : List (List ℕ)). whole_fault models more b.first m.name b.refs t m.document) (sym is.taken) ∙ e

    -- the first fault of all
    pub declared-fault : (faulty : FaultyModule) → whole_fault models more b.first m.name b.refs d.names m.document ≡ Some faulty → modules_fault models all ≡ Some faulty
    declared-fault faulty e = is.fits ∙ fault-here (module_fault models first) all i m at faulty (here-is (Some faulty) e)

    -- its groups have rows
    have : HaveRows models more b.first
    have = subst (λ (f : ℕ). HaveRows models more f) (sym is.first_is)
        (subst (λ (g : List (List ℕ)). HaveRows models g first) (ap group_names (parted-at all i m at).1 ∙ sym known_here) (groups-have models all (i + 1)))

    -- the rows that it brings
    own_rows : rows_from models more b.first b.refs m.name (entries_of (codes "row") m.document) ≡ rows_in models first (take i all) m
    own_rows =
        ap (λ (g : List (List ℕ)). rows_from models g b.first b.refs m.name (entries_of (codes "row") m.document)) known_here
        ∙ ap (λ (f : ℕ). rows_from models (group_names (take i all ++ m ∷ [])) f b.refs m.name (entries_of (codes "row") m.document)) is.first_is
        ∙ ap (λ (r : List Ref). rows_from models (group_names (take i all ++ m ∷ [])) first r m.name (entries_of (codes "row") m.document)) is.refs_are

    -- one module more
    pub declared-next : (new : Declared) (brought : Brought) → whole_fault models more b.first m.name b.refs d.names m.document ≡ None
        → GrowsBy models (length more) d new
        (map (name_of m.name) (entries_of (codes "group") m.document) ++ map (name_of m.name) (entries_of (codes "rule") m.document) ++ map (ref_name m.name) (entries_of (codes "row") m.document))
        (map (group_from more m.name) (entries_of (codes "group") m.document))
        (map (line_from models more) (entries_of (codes "access") m.document))
        (map (rule_from models more m.name) (entries_of (codes "rule") m.document))
        → BringsOn models more m.name (entries_of (codes "row") m.document) b brought
        → IsDeclaredTo (i + 1) more new brought
    declared-next new brought none grows brings =
        let p = parted-at all i m at in
        let own_groups = map (group_from more m.name) (entries_of (codes "group") m.document) in
        let own_lines = map (line_from models more) (entries_of (codes "access") m.document) in
        let own_rules_data = map (rule_from models more m.name) (entries_of (codes "rule") m.document) in
        let longer : length more ≡ length groups + length (entries_of (codes "group") m.document) =
        ap length named ∙ length-append groups (map (name_of m.name) (entries_of (codes "group") m.document)) ∙ ap (λ (n : ℕ). length groups + n) (length-map (entries_of (codes "group") m.document) (name_of m.name)) in
        let grown : length new.groups ≡ length d.groups + length (entries_of (codes "group") m.document) =
        ap length grows.groups_grow ∙ length-append d.groups own_groups ∙ ap (λ (n : ℕ). length d.groups + n) (length-map (entries_of (codes "group") m.document) (group_from more m.name)) in
        record {
          known = known_here ∙ ap group_names (sym p.1);
          taken = flat-next (λ (o : Module). full_names (codes "group") o ++ full_names (codes "rule") o ++ ref_names o) i m d.names new.names is.taken grows.names_grow ∙ ap declared_names (sym p.1);
          groups_rest = rest-next groups_in i m at d.groups new.groups own_groups (each_behind groups_in [] all) grows.groups_grow (ap (λ (g : List (List ℕ)). map (group_from g m.name) (entries_of (codes "group") m.document)) known_here) is.groups_rest;
          lines_rest = rest-next (lines_in models) i m at d.lines new.lines own_lines (each_behind (lines_in models) [] all) grows.lines_grow (ap (λ (g : List (List ℕ)). map (line_from models g) (entries_of (codes "access") m.document)) known_here) is.lines_rest;
          rules_rest = rest-next (rules_in models) i m at (map rule_data d.rules) (map rule_data new.rules) own_rules_data (each_behind (rules_in models) [] all) grows.rules_grow
              (ap (λ (g : List (List ℕ)). map (rule_from models g m.name) (entries_of (codes "rule") m.document)) known_here) is.rules_rest;
          count = grown ∙ ap (λ (n : ℕ). n + length (entries_of (codes "group") m.document)) is.count ∙ sym longer;
          consistent = grows.consistent (consistent-more models (length groups) (length more) d (omega (arith, longer)) is.consistent);
          first_is = brings.first_stays ∙ is.first_is;
          refs_are = flat-next (λ (o : Module). map (ref_from models o.name) (entries_of (codes "row") o.document)) i m b.refs brought.refs is.refs_are brings.refs_grow ∙ ap (refs_of models) (sym p.1);
          rows_rest = rest-next (rows_in models first) i m at b.rows brought.rows (rows_from models more b.first b.refs m.name (entries_of (codes "row") m.document)) (declared_preset models all) brings.rows_grow own_rows is.rows_rest;
          brought = brings.brought have is.brought;
          fits = is.fits ∙ fault-on (module_fault models first) all i m at (here-is None none);
        }

  -- with no module left
  module _ (i : ℕ) (groups : List (List ℕ)) (d : Declared) (b : Brought) (is : IsDeclaredTo i groups d b) where
    -- they are a policy
    pub declared-over : IsPolicyOver models (policy_of models d.groups d.lines d.rules)
    declared-over = policy-over models d (subst (λ (n : ℕ). AreConsistent models n d) (sym is.count) is.consistent)

    -- they are a preset
    pub declared-rows : IsPreset models b.rows
    declared-rows = is.brought.fit

    module _ (end : ◌≡◌ {A = List Module} (drop i all) []) where
      -- nothing stands against them
      pub declared-fits : modules_fault models all ≡ None
      declared-fits = is.fits ∙ ap (first_fault (module_fault models first) (take i all)) end

      whole : {X : Type 0} (declared : List Module → Module → List X) (own total : List X) → own ++ each_behind declared (take i all) (drop i all) ≡ total → own ≡ total
      whole {X} declared own total rest = sym (append-nil own) ∙ ap (λ (l : List Module). own ++ each_behind declared (take i all) l) (sym end) ∙ rest

      abbrev pub made : List Group → List AccessLine → List RuleData → PolicyData
      made own lines rules = record { groups = own; accesses = lines; rules = rules; fields = field_accesses own models }

      -- what they declare is the policy
      pub declared-all : policy_of models d.groups d.lines d.rules ≡ declared_policy models all
      declared-all =
          ap (λ (own : List Group). made own d.lines (map rule_data d.rules)) (whole groups_in d.groups (each_behind groups_in [] all) is.groups_rest)
          ∙ ap (λ (lines : List AccessLine). made (each_behind groups_in [] all) lines (map rule_data d.rules)) (whole (lines_in models) d.lines (each_behind (lines_in models) [] all) is.lines_rest)
          ∙ ap (λ (rules : List RuleData). made (each_behind groups_in [] all) (each_behind (lines_in models) [] all) rules) (whole (rules_in models) (map rule_data d.rules) (each_behind (rules_in models) [] all) is.rules_rest)

      -- what they bring is the preset
      pub declared-brought : b.rows ≡ declared_preset models all
      declared-brought = whole (rows_in models first) b.rows (declared_preset models all) is.rows_rest

  -- the same of a module by its name and its document
  module _ (i : ℕ) (m : Module) (at : slice_get all i ≡ Some m) (groups more : List (List ℕ)) (d : Declared) (b : Brought) (is : IsDeclaredTo i groups d b) where
    abbrev pub Steps : Declared → Brought → List ℕ → Members → Type 0
    Steps new brought owner document =
        more ≡ groups ++ map (name_of owner) (entries_of (codes "group") document)
        → whole_fault models more b.first owner b.refs d.names document ≡ None
        → GrowsBy models (length more) d new
        (map (name_of owner) (entries_of (codes "group") document) ++ map (name_of owner) (entries_of (codes "rule") document) ++ map (ref_name owner) (entries_of (codes "row") document))
        (map (group_from more owner) (entries_of (codes "group") document))
        (map (line_from models more) (entries_of (codes "access") document))
        (map (rule_from models more owner) (entries_of (codes "rule") document))
        → BringsOn models more owner (entries_of (codes "row") document) b brought
        → IsDeclaredTo (i + 1) more new brought

    pub declared-step : (new : Declared) (brought : Brought) (owner : List ℕ) (document : Members) → owner ≡ m.name → document ≡ m.document → Steps new brought owner document
    declared-step new brought owner document o e =
        subst (λ (x : List ℕ). Steps new brought x document) (sym o)
        (subst (λ (y : Members). Steps new brought m.name y) (sym e) (λ named none grows brings. declared-next i m at groups more d b is named new brought none grows brings))

    abbrev pub Fails : List ℕ → Members → Type 0
    Fails owner document =
        more ≡ groups ++ map (name_of owner) (entries_of (codes "group") document)
        → (faulty : FaultyModule) → whole_fault models more b.first owner b.refs d.names document ≡ Some faulty → modules_fault models all ≡ Some faulty

    pub declared-fails : (owner : List ℕ) (document : Members) → owner ≡ m.name → document ≡ m.document → Fails owner document
    declared-fails owner document o e = subst (λ (x : List ℕ). Fails x document) (sym o) (subst (λ (y : Members). Fails m.name y) (sym e) (λ named faulty first. declared-fault i m at groups more d b is named faulty first))
