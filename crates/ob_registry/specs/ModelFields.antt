-- Private: the fields of a model as the program has them.
use Rattle.std.specs.Prelude.{ℕ, suc, List, map, position, take, drop, Option, option_map}
use Rattle.std.specs.Str.{bytes_eq}
use Rattle.ob_base.specs.declared.id.FieldNo.{FieldNo}
use Rattle.ob_registry.specs.declared.model.Member.{Member as KeptMember}
use Rattle.ob_registry.specs.declared.model.Role.{Role as KeptRole}
use Rattle.ob_registry.specs.declared.model.Role.TheVariants as kept
use Rattle.ob_definition.specs.Members.{Member, Role, own, delegated, hidden}

-- how many models, or fields of one, have numbers
abbrev pub max_numbers : ℕ
max_numbers = 65535

abbrev pub role_of : KeptRole → Role
role_of kept.Own = own
role_of (kept.Delegated link) = delegated link.now
role_of kept.Hidden = hidden

abbrev pub member_of : KeptMember → Member
member_of m = record { entry = m.entry; def = m.def.now; role = role_of m.role }

abbrev pub members_in : List KeptMember → List Member
members_in members = map member_of members

-- the named fields are the first so many, the conditions those behind them
abbrev pub named_in : ℕ → List KeptMember → List Member
named_in named members = take named (members_in members)

abbrev pub hidden_in : ℕ → List KeptMember → List Member
hidden_in named members = drop named (members_in members)

-- the number of the field of a name, by its place
abbrev pub number_in : List Member → List ℕ → Option FieldNo
number_in members name = option_map (λ i. record { 0 = suc i }) (position (λ m. bytes_eq m.def.name name) members)
