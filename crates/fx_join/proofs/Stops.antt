-- Where the reading of parts stops.
use Rattle.std.proofs.Common.{◌≡◌, ◌⊎◌, ℕ, suc, List, [], length, Option, refl, sym, ap, ◌∙◌, subst, inl, inr}
use Rattle.fx_base.specs.declared.fault.Fault.{Fault}
use Rattle.fx_base.specs.Device.{MayHaveLeft}
use Rattle.fx_base.specs.Fault.{IsMemory}
use Rattle.fx_base.specs.Lines.{text_lines}
use Rattle.fx_tables.specs.Classes.{Class}
use Rattle.fx_tables.specs.Network.{Net}
use Rattle.fx_join.specs.Joins.{IsAllParts, IsClassAt, IsRefusedIn, IsUnread, IsWrong, JoinsMore}
use Rattle.fx_join.specs.PartChecks.{IsAtPart, IsEndlessPart, IsPartText, IsWrongPart}
use Rattle.fx_join.specs.PartTexts.{PartText, first_part}
use Rattle.fx_join.specs.Taking.{LacksFirst, TakesFirst}
use Rattle.fx_join.proofs.PartsRead.{HasRead, read_all, read_before, read_before_none}
use Rattle.fx_parts.specs.Joins.{Joined}

pub mapped : (left : Option (List ℕ)) (P Q : List ℕ → Type 0) → ((octets : List ℕ) → P octets → Q octets)
    → MayHaveLeft left P → MayHaveLeft left Q
mapped left P Q f h = (h.0, h.1, f h.0 h.2)

-- what a join stops for
abbrev pub IsStop : Net → List ℕ → Fault → Type 0
IsStop whole octets e = IsRefusedIn whole octets e ⊎ IsUnread whole octets e

-- a part is refused or too long
pub stops_at_part : (whole : Net) (first now new : Option (List ℕ)) (parts : List PartText) (part : PartText)
    (number : ℕ) (e : Fault) (R : Type 0) → HasRead (IsPartText whole) first now parts
    → TakesFirst first_part now new part → number ≡ suc (length parts)
    → IsMemory e ⊎ (IsEndlessPart part e ⊎ IsWrongPart part number e)
    → IsMemory e ⊎ (R ⊎ MayHaveLeft first (λ octets. IsStop whole octets e))
stops_at_part whole first now new parts part number e R read taken is why =
    let there = read_before (IsPartText whole) first now new parts part read taken in
    elim why [
      | inl m ↦ inl m
      | inr (inl l) ↦ inr (inr
          (mapped first _ (λ octets. IsStop whole octets e) (λ octets b. inr (inr (parts, part, b, l))) there))
      | inr (inr w) ↦ inr (inr (mapped first _ (λ octets. IsStop whole octets e)
          (λ octets b. inl (parts, part, b, subst (λ (n : ℕ). IsWrongPart part n e) is w)) there))
    ]

-- no part is there
pub stops_at_none : (whole : Net) (first now : Option (List ℕ)) (parts : List PartText) (number : ℕ) (e : Fault)
    (R : Type 0) → HasRead (IsPartText whole) first now parts
    → (lacks : LacksFirst first_part now) × (text_lines lacks.octets ≡ [] → ⊥) → number ≡ suc (length parts)
    → IsMemory e ⊎ IsAtPart 801 number e
    → IsMemory e ⊎ (R ⊎ MayHaveLeft first (λ octets. IsStop whole octets e))
stops_at_none whole first now parts number e R read lacks is (inl m) = inl m
stops_at_none whole first now parts number e R read lacks is (inr there) =
    inr (inr (mapped first _ (λ octets. IsStop whole octets e)
    (λ octets b. inr (inl (parts, b, subst (λ (n : ℕ). IsAtPart 801 n e) is there)))
    (read_before_none (IsPartText whole) first now parts read lacks)))

-- ---- marks

pub joins_none : (join : Joined) → JoinsMore join join
joins_none join = record { whole = refl; classes = refl; marks = refl }

pub joins_then : (first second third : Joined) → JoinsMore first second → JoinsMore second third
    → JoinsMore first third
joins_then first second third a b = record {
  whole = b.whole ∙ a.whole;
  classes = b.classes ∙ a.classes;
  marks = b.marks ∙ a.marks;
}
