-- The links that a dotted name goes through, as far as they are found.
use Rattle.std.proofs.Common.{◌≡◌, ℕ, suc, ◌+◌, ◌-◌, ◌<◌, ◌≤◌, List, [], ◌∷◌, ◌++◌, append_assoc, append-nil, Bor, length, map, take, drop, get_or, drop-cons, Result, Ok, Err, refl, sym, ap, ◌∙◌, subst, arith}
use Rattle.ob_base.specs.Chain.{◌>>=◌}
use Rattle.ob_base.specs.declared.id.FieldNo.{FieldNo}
use Rattle.ob_base.specs.declared.id.ModelNo.{ModelNo}
use Rattle.ob_domain.specs.Aims.{aim_along, link_at, stored_field}
use Rattle.ob_domain.specs.Over.{AreLinks, end_of}
use Rattle.ob_domain.specs.declared.aim.Aim.{Aim}
use Rattle.ob_domain.specs.declared.fault.Unfit.{Unfit}
use Rattle.ob_expr.specs.declared.typed.Link.{Link}
use Rattle.ob_schema.specs.Models.{HasField, HasModel}
use Rattle.ob_schema.specs.declared.info.ModelInfo.{ModelInfo}
use Rattle.ob_schema.specs.declared.info.Step.{Step}

-- what is behind links
abbrev pub with_links : List Link → Result Aim Unfit → Result Aim Unfit
with_links links (Ok aim) = Ok (record { links = links ++ aim.links; field = aim.field })
with_links links (Err why) = Err why

-- a link before what it leads to
abbrev behind_link : Link → Aim → Result Aim Unfit
behind_link link aim = Ok (record { links = link ∷ aim.links; field = aim.field })

with_links-none : (r : Result Aim Unfit) → r ≡ with_links [] r
with_links-none (Ok aim) = refl
with_links-none (Err why) = refl

with_links-more : (links : List Link) (link : Link) (r : Result Aim Unfit) → with_links links (r >>= behind_link link) ≡ with_links (links ++ link ∷ []) r
with_links-more links link (Ok aim) = ap (λ (ls : List Link). Ok (record { links = ls; field = aim.field })) (sym (append_assoc links (link ∷ []) aim.links))
with_links-more links link (Err why) = refl

pub end_of-more : (model : ModelNo) (links : List Link) (link : Link) → end_of model (links ++ link ∷ []) ≡ link.target
end_of-more model [] link = refl
end_of-more model (first ∷ links) link = end_of-more first.target links link

-- ---- names in the code

last_behind : (step : Bor (List ℕ)) (steps : List (Bor (List ℕ))) (d : Bor (List ℕ))
    → map (λ (s : Bor (List ℕ)). s.now) (step ∷ steps) ≡ map (λ (s : Bor (List ℕ)). s.now) (take (length steps) (step ∷ steps)) ++ (get_or (step ∷ steps) (length steps) d).now ∷ []
last_behind step [] d = refl
last_behind step (next ∷ steps) d = ap (λ (names : List (List ℕ)). step.now ∷ names) (last_behind next steps d)

-- names, the last one apart
pub last_apart : (steps : List (Bor (List ℕ))) (d : Bor (List ℕ)) → 1 ≤ length steps
    → map (λ (s : Bor (List ℕ)). s.now) steps ≡ map (λ (s : Bor (List ℕ)). s.now) (take (length steps - 1) steps) ++ (get_or steps (length steps - 1) d).now ∷ []
last_apart [] d some = absurd (omega arith)
last_apart (step ∷ steps) d some = let e : suc (length steps) - 1 ≡ length steps = omega arith in rw e (last_behind step steps d)

-- the next name before those behind it
next_name : (before : List (Bor (List ℕ))) (i : ℕ) (d : Bor (List ℕ)) (last : List ℕ) → i < length before
    → map (λ (s : Bor (List ℕ)). s.now) (drop i before) ++ last ∷ [] ≡ (get_or before i d).now ∷ (map (λ (s : Bor (List ℕ)). s.now) (drop (i + 1) before) ++ last ∷ [])
next_name before i d last within =
    let more : suc i ≡ i + 1 = omega arith in
    ap (λ (xs : List (Bor (List ℕ))). map (λ (s : Bor (List ℕ)). s.now) xs ++ last ∷ []) (drop-cons before i d within)
    ∙ ap (λ (n : ℕ). (get_or before i d).now ∷ (map (λ (s : Bor (List ℕ)). s.now) (drop n before) ++ last ∷ [])) more

module _ (models : List ModelInfo) where
  pub AreLinks-more : (model : ModelNo) (links : List Link) (link : Link) → AreLinks models model links → HasField models (end_of model links) link.field → HasModel models link.target
      → AreLinks models model (links ++ link ∷ [])
  AreLinks-more model [] link before field target = (field, target, tt)
  AreLinks-more model (first ∷ links) link before field target = (before.0, before.1, AreLinks-more first.target links link before.2 field target)

  -- a link's field is that of the step
  pub link_there : (model end : ModelNo) (at : Step) (link : Link) → end ≡ model → at.model ≡ model → link.field ≡ at.field → HasField models at.model at.field → HasField models end link.field
  link_there model end at link ends own same there =
      subst (λ (m : ModelNo). HasField models m link.field) (own ∙ sym ends) (subst (λ (f : FieldNo). HasField models at.model f) (sym same) there)

  -- names are found as these links before the rest of them
  pub record IsFoundTo (start : ModelNo) (names : List (List ℕ)) (rest : List (List ℕ)) (links : List Link) (model : ModelNo) : Type 0 where
    pub is : aim_along models start names ≡ with_links links (aim_along models model rest)

  pub IsFoundTo-none : (model : ModelNo) (names : List (List ℕ)) → IsFoundTo model names names [] model
  IsFoundTo-none model names = record { is = with_links-none (aim_along models model names) }

  pub IsFoundTo-turn : (start : ModelNo) (all : List (List ℕ)) (links : List Link) (model : ModelNo) (before : List (Bor (List ℕ))) (i : ℕ) (d : Bor (List ℕ)) (last : List ℕ) → i < length before
      → IsFoundTo start all (map (λ (s : Bor (List ℕ)). s.now) (drop i before) ++ last ∷ []) links model
      → IsFoundTo start all ((get_or before i d).now ∷ (map (λ (s : Bor (List ℕ)). s.now) (drop (i + 1) before) ++ last ∷ [])) links model
  IsFoundTo-turn start all links model before i d last within found =
      subst (λ (names : List (List ℕ)). IsFoundTo start all names links model) (next_name before i d last within) found

  pub IsFoundTo-past : (start : ModelNo) (all : List (List ℕ)) (links : List Link) (model : ModelNo) (before : List (Bor (List ℕ))) (i : ℕ) (last : List ℕ) → drop i before ≡ []
      → IsFoundTo start all (map (λ (s : Bor (List ℕ)). s.now) (drop i before) ++ last ∷ []) links model → IsFoundTo start all (last ∷ []) links model
  IsFoundTo-past start all links model before i last end found =
      subst (λ (xs : List (Bor (List ℕ))). IsFoundTo start all (map (λ (s : Bor (List ℕ)). s.now) xs ++ last ∷ []) links model) end found

  at_name : (model : ModelNo) (name : List ℕ) (names : List (List ℕ)) (last : List ℕ) → aim_along models model (name ∷ (names ++ last ∷ []))
      ≡ (stored_field models model name >>= λ at. link_at models at >>= λ link. aim_along models link.target (names ++ last ∷ []) >>= behind_link link)
  at_name model name [] last = refl
  at_name model name (next ∷ names) last = refl

  module _ (start : ModelNo) (all : List (List ℕ)) (links : List Link) (model : ModelNo) where
    pub IsFoundTo-more : (name : List ℕ) (names : List (List ℕ)) (last : List ℕ) (at : Step) (link : Link) → stored_field models model name ≡ Ok at → link_at models at ≡ Ok link
        → IsFoundTo start all (name ∷ (names ++ last ∷ [])) links model → IsFoundTo start all (names ++ last ∷ []) (links ++ link ∷ []) link.target
    IsFoundTo-more name names last at link stored leads before =
        let next : aim_along models model (name ∷ (names ++ last ∷ [])) ≡ (aim_along models link.target (names ++ last ∷ []) >>= behind_link link) = at_name model name names last ∙ (rw (stored, leads) refl) in
        record { is = before.is ∙ ap (with_links links) next ∙ with_links-more links link (aim_along models link.target (names ++ last ∷ [])) }

    pub IsFoundTo-no_field : (name : List ℕ) (names : List (List ℕ)) (last : List ℕ) (why : Unfit) → stored_field models model name ≡ Err why
        → IsFoundTo start all (name ∷ (names ++ last ∷ [])) links model → aim_along models start all ≡ Err why
    IsFoundTo-no_field name names last why none before =
        let next : aim_along models model (name ∷ (names ++ last ∷ [])) ≡ Err why = at_name model name names last ∙ (rw none refl) in
        before.is ∙ ap (with_links links) next

    pub IsFoundTo-no_link : (name : List ℕ) (names : List (List ℕ)) (last : List ℕ) (at : Step) (why : Unfit) → stored_field models model name ≡ Ok at → link_at models at ≡ Err why
        → IsFoundTo start all (name ∷ (names ++ last ∷ [])) links model → aim_along models start all ≡ Err why
    IsFoundTo-no_link name names last at why stored none before =
        let next : aim_along models model (name ∷ (names ++ last ∷ [])) ≡ Err why = at_name model name names last ∙ (rw (stored, none) refl) in
        before.is ∙ ap (with_links links) next

    pub IsFoundTo-all : (last : List ℕ) (at : Step) → stored_field models model last ≡ Ok at → IsFoundTo start all (last ∷ []) links model
        → aim_along models start all ≡ Ok (record { links = links; field = at })
    IsFoundTo-all last at stored before =
        let next : aim_along models model (last ∷ []) ≡ Ok (record { links = []; field = at }) = rw stored refl in
        before.is ∙ ap (with_links links) next ∙ ap (λ (ls : List Link). Ok (record { links = ls; field = at })) (append-nil links)

    pub IsFoundTo-end : (last : List ℕ) (why : Unfit) → stored_field models model last ≡ Err why → IsFoundTo start all (last ∷ []) links model → aim_along models start all ≡ Err why
    IsFoundTo-end last why none before =
        let next : aim_along models model (last ∷ []) ≡ Err why = rw none refl in
        before.is ∙ ap (with_links links) next
