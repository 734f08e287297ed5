-- Flags of the processes to which destinations lead.
use Rattle.std.proofs.Common.{◌≡◌, ℕ, zero, suc, ◌+◌, ◌<◌, ◌≤◌, ◌==◌, Bool, true, false, ◌||◌, List, [], ◌∷◌, ◌++◌, length, map, Option, Some, None, refl, sym, ap, ◌∙◌, arith, inl, inr, eqb-true, get_or, option_map, slice_get}
use Rattle.std.specs.List.{list_any, range_with_len}
use Rattle.std.proofs.lemmas.Bool.{cases_lt, cases_Bool, eq-eqb, or_right}
use Rattle.std.proofs.lemmas.List.{set_past}
use Rattle.std.proofs.lemmas.List.Folds.{list_any-append}
use Rattle.std.proofs.lemmas.Option.{slice_get-map}
use Rattle.std.proofs.lemmas.List.FromFn.{get_or-map-range_with_len, length-map-range_with_len}
use Rattle.fx_tables.specs.Network.{Net, Exporter}
use Rattle.fx_ranks.specs.Feeding.{end_of, is_place, leads_at, leads_to, linked_processes, with_flag}
use Rattle.fx_ranks.proofs.Ranges.{flags_set}

map_same : {X : Type 0} (f g : ℕ → X) (a n : ℕ) → ((k : ℕ) → a ≤ k → k < a + n → f k ≡ g k) → map f (range_with_len a n)
    ≡ map g (range_with_len a n)
map_same f g a zero same = refl
map_same f g a (suc n) same = rw (
  same a (omega arith) (omega arith),
  map_same f g (a + 1) n
      (λ k low high. same k (omega arith) (omega arith)),
) refl

or_false : (b : Bool) → (b || false) ≡ b
or_false true = refl
or_false false = refl

not_place : (place k : ℕ) → (k ≡ place → ⊥) → (place == k) ≡ false
not_place place k other =
    elim (cases_Bool (place == k)) [
      | inl e ↦ absurd (other (sym (eqb-true place k e)))
      | inr e ↦ e
    ]

-- the flags of a test, with one more
with_flag_is : (f : ℕ → Bool) (n : ℕ) (flags : List Bool) (o : Option ℕ) → flags ≡ map f (range_with_len 0 n)
    → with_flag flags o ≡ map (λ k. f k || is_place k o) (range_with_len 0 n)
with_flag_is f n flags None e = e ∙ map_same f (λ k. f k || false) 0 n (λ k low high. sym (or_false (f k)))
with_flag_is f n flags (Some place) e =
    elim (cases_lt place n) [
      | inl lt ↦
          flags_set f (λ k. f k || (place == k)) place n flags e lt
          (or_right (f place) (place == place) (eq-eqb place place refl))
          (λ k other. ap (λ (b : Bool). f k || b) (not_place place k other) ∙ or_false (f k))
      | inr le ↦
          (let long : length flags ≡ n = ap length e ∙ length-map-range_with_len f 0 n in
          set_past flags place true (omega (arith, long, le))
          ∙ (e ∙ map_same f (λ k. f k || (place == k)) 0 n
          (λ k low high. sym (ap (λ (b : Bool). f k || b) (not_place place k (λ same. absurd (omega arith)))
          ∙ or_false (f k)))))
    ]

leads_to_end : (net : Net) (process : ℕ) (destination : Option ℕ) → leads_to net process destination
    ≡ is_place process (end_of net destination)
leads_to_end net process None = refl
leads_to_end net process (Some link) = refl

-- one destination more
pub one_destination_more : (net : Net) (before after : List (Option ℕ)) (d : Option ℕ) (n : ℕ) (flags : List Bool)
    → after ≡ before ++ d ∷ [] → flags ≡ map (λ to. list_any (leads_to net to) before) (range_with_len 0 n)
    → with_flag flags (end_of net d) ≡ map (λ to. list_any (leads_to net to) after) (range_with_len 0 n)
one_destination_more net before after d n flags is e =
    with_flag_is (λ to. list_any (leads_to net to) before) n flags (end_of net d) e
    ∙ map_same (λ k. list_any (leads_to net k) before || is_place k (end_of net d))
    (λ k. list_any (leads_to net k) after) 0 n (λ k low high.
    sym (ap (list_any (leads_to net k)) is ∙ (list_any-append (leads_to net k) before (d ∷ [])
    ∙ ap (λ (b : Bool). list_any (leads_to net k) before || b)
    (or_false (leads_to net k d) ∙ leads_to_end net k d))))

-- ---- flags in rows

abbrev pub flag_in : ℕ → Option (List Bool) → Bool
flag_in process None = false
flag_in process (Some row) = get_or row process false

row_leads : (net : Net) (process : ℕ) (o : Option Exporter) → process < length net.processes
    → flag_in process (option_map (linked_processes net) o) ≡ leads_at net process o
row_leads net process None low = refl
row_leads net process (Some exporter) low =
    get_or-map-range_with_len (λ to. list_any (leads_to net to) exporter.destinations) 0 (length net.processes) process
    process false low (omega arith)

pub leads_in_row : {X : Type 0} (net : Net) (v : X → List Bool) (rows : List X) (process place : ℕ) (o : Option X) → o
    ≡ slice_get rows place → map v rows ≡ map (linked_processes net) net.exporters → process < length net.processes
    → flag_in process (option_map v o) ≡ leads_at net process (slice_get net.exporters place)
leads_in_row net v rows process place o is e low =
    ap (λ x. flag_in process (option_map v x)) is
    ∙ (ap (flag_in process) (sym (slice_get-map v rows place)
    ∙ (ap (λ (r : List (List Bool)). slice_get r place) e
    ∙ slice_get-map (linked_processes net) net.exporters place))
    ∙ row_leads net process (slice_get net.exporters place) low)
