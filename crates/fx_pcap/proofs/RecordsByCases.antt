-- Records are what the cases say.
use Rattle.std.proofs.Common.{◌≡◌, ℕ, zero, suc, ◌+◌, ◌-◌, ◌^◌, ◌≤◌, ◌<◌, List, [], ◌∷◌, length, drop, Option, Some, None, ◌↔◌, refl, sym, ap, ◌∙◌, subst, arith}
use Rattle.std.proofs.lemmas.List.{length-drop}
use Rattle.fx_base.specs.declared.fault.Place.TheVariants as places
use Rattle.fx_base.specs.Fault.{fault_at}
use Rattle.fx_pcap.specs.declared.header.Format.{Format}
use Rattle.fx_pcap.specs.Records.{captured_length, record_fault, item_of, place_after, with_item, Records, records_behind, records_of, AreRecords, no_octets, whole_record, no_record}
use Rattle.fx_pcap.proofs.Passing.{first_record}

fault_first : (format : Format) (place number : ℕ) (octets : List ℕ) → 0 < length octets
    → record_fault format.order octets ≡ Some number → records_of format place octets
    ≡ record { items = []; fault = Some (fault_at number (places.Octet place)) }
fault_first format place number [] some fault = absurd (omega (arith, some))
fault_first format place number (o ∷ octets) some fault =
    ap (λ (f : Option ℕ). with_item f place (item_of format (o ∷ octets))
    (records_behind format (place_after place 1) (15 + captured_length format.order (o ∷ octets)) octets)) fault

of_cases : (format : Format) (place : ℕ) (octets : List ℕ) (records : Records) → place ≤ 2 ^ 64 - 1
    → AreRecords format place octets records → records ≡ records_of format place octets
of_cases format _ _ _ fits (no_octets place) = refl
of_cases format _ _ _ fits (whole_record place octets behind some none rest) =
    let size : ℕ = 16 + captured_length format.order octets in
    let same : behind ≡ records_of format (place_after place size) (drop size octets) =
    of_cases format (place_after place size) (drop size octets) behind (omega arith) rest in
    ap (with_item None place (item_of format octets)) same
    ∙ sym (first_record format place size octets fits some none refl)
of_cases format _ _ _ fits (no_record place number octets some fault) =
    sym (fault_first format place number octets some fault)

to_cases : (n : ℕ) (format : Format) (place : ℕ) (octets : List ℕ) → length octets ≤ n → place ≤ 2 ^ 64 - 1
    → AreRecords format place octets (records_of format place octets)
to_cases n format place [] short fits = no_octets place
to_cases zero format place (o ∷ octets) short fits = absurd (omega (arith, short))
to_cases (suc n) format place (o ∷ octets) short fits =
    let size : ℕ = 16 + captured_length format.order (o ∷ octets) in
    let fewer : length (drop size (o ∷ octets)) ≤ n = omega (arith, length-drop size (o ∷ octets), short) in
    let behind = to_cases n format (place_after place size) (drop size (o ∷ octets)) fewer (omega arith) in
    elim (record_fault format.order (o ∷ octets))
    as (λ f. record_fault format.order (o ∷ octets) ≡ f
    → AreRecords format place (o ∷ octets) (records_of format place (o ∷ octets))) [
      | None ↦ λ none. subst (AreRecords format place (o ∷ octets))
          (sym (first_record format place size (o ∷ octets) fits (omega arith) none refl))
          (whole_record place (o ∷ octets) _ (omega arith) none behind)
      | Some number ↦ λ fault. subst (AreRecords format place (o ∷ octets))
          (sym (fault_first format place number (o ∷ octets) (omega arith) fault))
          (no_record place number (o ∷ octets) (omega arith) fault)
    ] refl

pub by_cases : (format : Format) (place : ℕ) (octets : List ℕ) (records : Records) → place < 2 ^ 64
    → AreRecords format place octets records ↔ (records ≡ records_of format place octets)
by_cases format place octets records fits = (
  of_cases format place octets records (omega (arith, fits)),
  λ same. subst (AreRecords format place octets) (sym same)
      (to_cases (length octets) format place octets (omega arith) (omega (arith, fits))),
)
