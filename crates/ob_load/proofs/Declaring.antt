-- What modules declare, entry by entry and module by module.
use Rattle.std.proofs.Common.{◌≡◌, ◌≢◌, ℕ, ◌||◌, Bool, true, false, List, [], ◌∷◌, ◌++◌, map, All, refl, sym, ap, subst, append_assoc, ◌∙◌}
use Rattle.std.specs.Str.{bytes_eq}
use Rattle.std.proofs.lemmas.Bool.{false≢true}
use Rattle.std.proofs.lemmas.List.{append-nil, map-append}
use Rattle.std.proofs.lemmas.List.Elements.{All-push, All-weaker}
use Rattle.std.proofs.lemmas.List.Folds.{list_any-append}
use Rattle.std.proofs.lemmas.List.Quantifiers.{all_pairs_push}
use Rattle.std.proofs.lemmas.Slice.Eq.{bytes_eq-Decides}
use Rattle.ob_access.specs.Policies.{RuleData, rule_data}
use Rattle.ob_access.specs.declared.policy.AccessLine.{AccessLine}
use Rattle.ob_access.specs.declared.policy.Group.{Group}
use Rattle.ob_access.specs.declared.policy.Rule.{Rule}
use Rattle.ob_load.specs.Access.{is_among}
use Rattle.ob_load.specs.Rooms.{AreConsistent, GrowsBy, IsGroupOf, IsLineOf, IsRuleOf}
use Rattle.ob_load.specs.declared.access.Declared.{Declared}
use Rattle.ob_schema.specs.declared.info.ModelInfo.{ModelInfo}

-- a name among others stays among them with one more
or-first : (a b : Bool) → a ≡ true → (a || b) ≡ true
or-first a b is = ap (λ (c : Bool). c || b) is

among-more : (names : List (List ℕ)) (one name : List ℕ) → is_among names name ≡ true → is_among (names ++ one ∷ []) name ≡ true
among-more names one name is = list_any-append (λ own. bytes_eq own name) names (one ∷ []) ∙ or-first (is_among names name) (is_among (one ∷ []) name) is

or-second : (a b : Bool) → b ≡ true → (a || b) ≡ true
or-second true b is = refl
or-second false b is = is

among-last : (names : List (List ℕ)) (name : List ℕ) → is_among (names ++ name ∷ []) name ≡ true
among-last names name =
    list_any-append (λ own. bytes_eq own name) names (name ∷ [])
    ∙ or-second (is_among names name) (is_among (name ∷ []) name) (or-first (bytes_eq name name) false ((bytes_eq-Decides name name).1 refl))

module _ (models : List ModelInfo) (count : ℕ) where
  -- nothing was added
  pub grows-none : (d : Declared) → GrowsBy models count d d [] [] [] []
  grows-none d = record {
    names_grow = sym (append-nil d.names);
    groups_grow = sym (append-nil d.groups);
    lines_grow = sym (append-nil d.lines);
    rules_grow = sym (append-nil (map rule_data d.rules));
    consistent = λ is. is;
  }

  -- one addition behind another
  pub grows-then : (a b c : Declared) (names more_names : List (List ℕ)) (groups more_groups : List Group) (lines more_lines : List AccessLine) (rules more_rules : List RuleData)
      → GrowsBy models count a b names groups lines rules → GrowsBy models count b c more_names more_groups more_lines more_rules
      → GrowsBy models count a c (names ++ more_names) (groups ++ more_groups) (lines ++ more_lines) (rules ++ more_rules)
  grows-then a b c names more_names groups more_groups lines more_lines rules more_rules first then = record {
    names_grow = then.names_grow ∙ ap (λ (l : List (List ℕ)). l ++ more_names) first.names_grow ∙ append_assoc a.names names more_names;
    groups_grow = then.groups_grow ∙ ap (λ (l : List Group). l ++ more_groups) first.groups_grow ∙ append_assoc a.groups groups more_groups;
    lines_grow = then.lines_grow ∙ ap (λ (l : List AccessLine). l ++ more_lines) first.lines_grow ∙ append_assoc a.lines lines more_lines;
    rules_grow = then.rules_grow ∙ ap (λ (l : List RuleData). l ++ more_rules) first.rules_grow ∙ append_assoc (map rule_data a.rules) rules more_rules;
    consistent = λ is. then.consistent (first.consistent is);
  }

  -- a name more is taken
  taken-more : (groups : List Group) (names : List (List ℕ)) (name : List ℕ) → All (λ (g : Group). is_among names g.name ≡ true) groups → All (λ (g : Group). is_among (names ++ name ∷ []) g.name ≡ true) groups
  taken-more groups names name taken = All-weaker (λ (g : Group). is_among names g.name ≡ true) (λ (g : Group). is_among (names ++ name ∷ []) g.name ≡ true) (λ g is. among-more names name g.name is) groups taken

  -- what has the same parts fits together as well
  abbrev pub made_of : List (List ℕ) → List Group → List AccessLine → List Rule → Declared
  made_of names groups lines rules = record { names = names; groups = groups; lines = lines; rules = rules }

  consistent-same : (d : Declared) (names : List (List ℕ)) (groups : List Group) (lines : List AccessLine) (rules : List Rule)
      → d.names ≡ names → d.groups ≡ groups → d.lines ≡ lines → d.rules ≡ rules → AreConsistent models count (made_of names groups lines rules) → AreConsistent models count d
  consistent-same d names groups lines rules n g l r is =
      subst (λ (x : List (List ℕ)). AreConsistent models count (made_of x d.groups d.lines d.rules)) (sym n)
      (subst (λ (x : List Group). AreConsistent models count (made_of names x d.lines d.rules)) (sym g)
      (subst (λ (x : List AccessLine). AreConsistent models count (made_of names groups x d.rules)) (sym l)
      (subst (λ (x : List Rule). AreConsistent models count (made_of names groups lines x)) (sym r) is)))

  module _ (d new : Declared) where
    -- a group more, whose name wasn't taken
    pub grows-group : (g : Group) → new.names ≡ d.names ++ g.name ∷ [] → new.groups ≡ d.groups ++ g ∷ [] → new.lines ≡ d.lines → new.rules ≡ d.rules
        → is_among d.names g.name ≡ false → All (IsGroupOf count) g.implies → GrowsBy models count d new (g.name ∷ []) (g ∷ []) [] []
    grows-group g n gs l r free implies = record {
      names_grow = n;
      groups_grow = gs;
      lines_grow = l ∙ sym (append-nil d.lines);
      rules_grow = ap (map rule_data) r ∙ sym (append-nil (map rule_data d.rules));
      consistent = λ is. consistent-same new (d.names ++ g.name ∷ []) (d.groups ++ g ∷ []) d.lines d.rules n gs l r (record {
        apart = all_pairs_push (λ (a b : Group). a.name ≢ b.name) d.groups g is.apart (λ k e lt same. false≢true (sym free ∙ ap (is_among d.names) (sym same) ∙ is.taken k e lt));
        taken = All-push (λ (o : Group). is_among (d.names ++ g.name ∷ []) o.name ≡ true) d.groups g (taken-more d.groups d.names g.name is.taken) (among-last d.names g.name);
        implied = All-push (λ (o : Group). All (IsGroupOf count) o.implies) d.groups g is.implied implies;
        lines = is.lines;
        rules = is.rules;
      });
    }

    -- an access line more
    pub grows-line : (line : AccessLine) → new.names ≡ d.names → new.groups ≡ d.groups → new.lines ≡ d.lines ++ line ∷ [] → new.rules ≡ d.rules
        → IsLineOf models count line → GrowsBy models count d new [] [] (line ∷ []) []
    grows-line line n gs l r fits = record {
      names_grow = n ∙ sym (append-nil d.names);
      groups_grow = gs ∙ sym (append-nil d.groups);
      lines_grow = l;
      rules_grow = ap (map rule_data) r ∙ sym (append-nil (map rule_data d.rules));
      consistent = λ is. consistent-same new d.names d.groups (d.lines ++ line ∷ []) d.rules n gs l r
          (record { apart = is.apart; taken = is.taken; implied = is.implied; lines = All-push (IsLineOf models count) d.lines line is.lines fits; rules = is.rules });
    }

    -- a rule more
    pub grows-rule : (rule : Rule) → new.names ≡ d.names ++ rule.name ∷ [] → new.groups ≡ d.groups → new.lines ≡ d.lines → new.rules ≡ d.rules ++ rule ∷ []
        → IsRuleOf models count rule → GrowsBy models count d new (rule.name ∷ []) [] [] (rule_data rule ∷ [])
    grows-rule rule n gs l r fits = record {
      names_grow = n;
      groups_grow = gs ∙ sym (append-nil d.groups);
      lines_grow = l ∙ sym (append-nil d.lines);
      rules_grow = ap (map rule_data) r ∙ map-append rule_data d.rules (rule ∷ []);
      consistent = λ is. consistent-same new (d.names ++ rule.name ∷ []) d.groups d.lines (d.rules ++ rule ∷ []) n gs l r (record {
        apart = is.apart;
        taken = taken-more d.groups d.names rule.name is.taken;
        implied = is.implied;
        lines = is.lines;
        rules = All-push (IsRuleOf models count) d.rules rule is.rules fits;
      });
    }

    -- names more, of what is no part of the policy
    among-all : (names more : List (List ℕ)) (name : List ℕ) → is_among names name ≡ true → is_among (names ++ more) name ≡ true
    among-all names more name is = list_any-append (λ own. bytes_eq own name) names more ∙ or-first (is_among names name) (is_among more name) is

    pub grows-names : (names : List (List ℕ)) → new.names ≡ d.names ++ names → new.groups ≡ d.groups → new.lines ≡ d.lines → new.rules ≡ d.rules → GrowsBy models count d new names [] [] []
    grows-names names n gs l r = record {
      names_grow = n;
      groups_grow = gs ∙ sym (append-nil d.groups);
      lines_grow = l ∙ sym (append-nil d.lines);
      rules_grow = ap (map rule_data) r ∙ sym (append-nil (map rule_data d.rules));
      consistent = λ is. consistent-same new (d.names ++ names) d.groups d.lines d.rules n gs l r (record {
        apart = is.apart;
        taken = All-weaker (λ (g : Group). is_among d.names g.name ≡ true) (λ (g : Group). is_among (d.names ++ names) g.name ≡ true) (λ g held. among-all d.names names g.name held) d.groups is.taken;
        implied = is.implied;
        lines = is.lines;
        rules = is.rules;
      });
    }
