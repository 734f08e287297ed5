-- Whether the tables of a network are a part of another's, as a decision.
use Rattle.std.specs.Prelude.{ℕ, Bool, true, false, not, ◌&&◌, ◌||◌, ◌==◌, List, length, zip, Option, Some, None, slice_get, if◌then◌else◌}
use Rattle.std.specs.List.{list_all, enumerate_from}
use Rattle.fx_elements.specs.Axes.{same_axis}
use Rattle.fx_layout.specs.Keys.{same_layout}
use Rattle.fx_tables.specs.declared.aggregation.MatchEntry.{MatchEntry}
use Rattle.fx_tables.specs.Network.{Net, Exporter, Holder, AggregationEntry, Process}
use Rattle.fx_parts.specs.Meaning.{lead}
use Rattle.fx_parts.specs.Parts.{lead_in}

abbrev pub same_place : Option ℕ → Option ℕ → Bool
same_place None None = true
same_place (Some a) (Some b) = a == b
same_place _ _ = false

-- two destinations lead to the same place
abbrev pub leads_alike : Net → Net → List ℕ → Option ℕ → Option ℕ → Bool
leads_alike part whole places d e = same_place (lead_in places (lead part d)) (lead whole e)

abbrev pub each_lead_alike : Net → Net → List ℕ → List (Option ℕ) → List (Option ℕ) → Bool
each_lead_alike part whole places ds es = list_all (λ x. leads_alike part whole places x.0 x.1) (zip ds es)

abbrev pub all_leads_alike : Net → Net → List ℕ → List (Option ℕ) → List (Option ℕ) → Bool
all_leads_alike part whole places ds es =
    length ds == length es && each_lead_alike part whole places ds es

-- two exporting processes that both exist send alike
abbrev pub exporters_alike : Net → Net → List ℕ → Option Exporter → Option Exporter → Bool
exporters_alike part whole places (Some e) (Some f) =
    (if e.parallel then f.parallel else not f.parallel) && all_leads_alike part whole places e.destinations
    f.destinations
exporters_alike part whole places _ _ = false

abbrev pub each_exporter_alike : Net → Net → List ℕ → List ℕ → List ℕ → Bool
each_exporter_alike part whole places ms ns =
    list_all (λ x. exporters_alike part whole places (slice_get part.exporters x.0) (slice_get whole.exporters x.1))
    (zip ms ns)

abbrev pub all_exporters_alike : Net → Net → List ℕ → List ℕ → List ℕ → Bool
all_exporters_alike part whole places ms ns =
    length ms == length ns && each_exporter_alike part whole places ms ns

abbrev pub holders_alike : Net → Net → List ℕ → Option Holder → Option Holder → Bool
holders_alike part whole places (Some h) (Some k) =
    same_layout h.layout k.layout && all_exporters_alike part whole places h.exporters k.exporters
holders_alike part whole places _ _ = false

abbrev pub entries_alike : MatchEntry → MatchEntry → Bool
entries_alike a b = same_axis a.axis b.axis && (a.bits == b.bits && a.value == b.value)

abbrev pub each_entry_alike : List MatchEntry → List MatchEntry → Bool
each_entry_alike xs ys = list_all (λ x. entries_alike x.0 x.1) (zip xs ys)

abbrev pub matches_alike : List MatchEntry → List MatchEntry → Bool
matches_alike xs ys = length xs == length ys && each_entry_alike xs ys

abbrev pub aggregations_alike : Net → Net → List ℕ → AggregationEntry → AggregationEntry → Bool
aggregations_alike part whole places a b =
    matches_alike a.matches b.matches && holders_alike part whole places (slice_get part.holders a.holder)
    (slice_get whole.holders b.holder)

abbrev pub each_aggregation_alike : Net → Net → List ℕ → List AggregationEntry → List AggregationEntry → Bool
each_aggregation_alike part whole places xs ys =
    list_all (λ x. aggregations_alike part whole places x.0 x.1) (zip xs ys)

abbrev pub all_aggregations_alike : Net → Net → List ℕ → List AggregationEntry → List AggregationEntry → Bool
all_aggregations_alike part whole places xs ys =
    length xs == length ys && each_aggregation_alike part whole places xs ys

abbrev pub processes_alike : Net → Net → List ℕ → Process → Option Process → Bool
processes_alike part whole places p None = false
processes_alike part whole places p (Some q) =
    all_exporters_alike part whole places p.exporters q.exporters && all_aggregations_alike part whole places
    p.aggregations q.aggregations

abbrev pub each_process_alike : Net → Net → List ℕ → List Process → List ℕ → Bool
each_process_alike part whole places ps qs =
    list_all (λ x. processes_alike part whole places x.0 (slice_get whole.processes x.1)) (zip ps qs)

abbrev pub all_processes_alike : Net → Net → List ℕ → Bool
all_processes_alike part whole places =
    length part.processes == length places && each_process_alike part whole places part.processes places

-- no other process has the report's place
abbrev pub no_other : ℕ → ℕ → List ℕ → Bool
no_other reporting report places = list_all (λ x. not (x.1 == report) || x.0 == reporting) (enumerate_from 0 places)

-- the part's report has the place of the whole's, and no other process has it
abbrev pub reports_alike : Net → Net → List ℕ → Bool
reports_alike part whole places =
    same_place (slice_get places part.report) (Some whole.report) && no_other part.report whole.report places

abbrev pub is_part : Net → Net → List ℕ → Bool
is_part part whole places =
    all_processes_alike part whole places &&
    (reports_alike part whole places && same_layout part.report_layout whole.report_layout)
