-- The first octets of template records (RFC 7011, section 3.4.1), options template records (3.4.2) and withdrawals
-- (8.1).
use Rattle.std.specs.Prelude.{ℕ, ◌||◌, ◌==◌, nat_lt, nat_le, if◌then◌else◌, List, length, drop, Result, Ok, Err}
use Rattle.std.specs.Int.{w16}
use Rattle.fx_wire.specs.Numbers.{number_at}
use Rattle.fx_wire.specs.declared.template.TemplateKind.{TemplateKind}
use Rattle.fx_wire.specs.declared.template.TemplateKind.TheVariants as kinds
use Rattle.fx_wire.specs.declared.template.TemplateHeading.{TemplateHeading}
use Rattle.fx_wire.specs.declared.template.TemplateHeading.TheVariants.{Withdrawal, WithdrawalOfAll, Declaration}
use Rattle.fx_wire.specs.declared.malformed.Malformed.{Malformed}
use Rattle.fx_wire.specs.declared.malformed.Malformed.TheVariants as malformed

-- the id of the sets that hold templates of a kind
abbrev pub set_id : TemplateKind → ℕ
set_id kinds.Plain = 2
set_id kinds.Options = 3

-- a field count of 0 withdraws the template of an id, or all templates of the set's kind if the id is that of the set
abbrev pub withdrawal : TemplateKind → ℕ → Result TemplateHeading Malformed
withdrawal kind id = if nat_le 256 id then Ok (Withdrawal id) else if id == set_id kind then Ok WithdrawalOfAll else Err
    malformed.Template

-- an options template gives the number of its scope fields: at least one
abbrev pub declaration : TemplateKind → ℕ → ℕ → List ℕ → Result (TemplateHeading × List ℕ) Malformed
declaration kinds.Plain id count octets = Ok (Declaration (record { id = id; scope = 0; count = count }), drop 4 octets)
declaration kinds.Options id count octets =
    if nat_lt (length octets) 6 then Err malformed.Template
    else if number_at w16 4 octets == 0 || nat_lt count (number_at w16 4 octets) then Err malformed.Template
    else Ok (Declaration (record { id = id; scope = number_at w16 4 octets; count = count }), drop 6 octets)

abbrev pub followed_by : List ℕ → Result TemplateHeading Malformed → Result (TemplateHeading × List ℕ) Malformed
followed_by octets (Ok heading) = Ok (heading, octets)
followed_by octets (Err why) = Err why

-- the heading of a template record of at least four octets, and the octets after the heading
abbrev pub heading_at : TemplateKind → List ℕ → Result (TemplateHeading × List ℕ) Malformed
heading_at kind octets =
    if number_at w16 2 octets == 0 then followed_by (drop 4 octets) (withdrawal kind (number_at w16 0 octets))
    else if nat_lt (number_at w16 0 octets) 256 then Err malformed.Template
    else declaration kind (number_at w16 0 octets) (number_at w16 2 octets) octets
