-- How a message changes what a session knows.
use Rattle.std.specs.Prelude.{ℕ, ◌+◌, ◌%◌, ◌^◌, ◌==◌, if◌then◌else◌, List, [], ◌∷◌, Option, Some, None, Result, Ok, Err}
use Rattle.fx_tables.specs.declared.record.Record.{Record}
use Rattle.fx_session.specs.declared.domain.Domain.{Domain}
use Rattle.fx_wire.specs.Sets.{SetParts}
use Rattle.fx_wire.specs.Messages.{Message}
use Rattle.fx_wire.specs.declared.template.TemplateKind.TheVariants as kinds
use Rattle.fx_session.specs.Templates.{Template, Templates, no_templates, at_number, with_entry, without_entry}
use Rattle.fx_session.specs.TemplateSets.{template_set}
use Rattle.fx_session.specs.DataSets.{Taken, flow_set, option_set}
use Rattle.fx_session.specs.declared.stream_fault.StreamFault.{StreamFault}
use Rattle.fx_session.specs.declared.stream_fault.StreamFault.TheVariants as faults

-- ---- sets

-- in the middle of a message: the templates of its observation domain, and what was read so far
pub record Reading : Type 0 where
  pub templates : Templates
  pub taken : Taken

abbrev pub with_templates : Taken → Result Templates StreamFault → Result Reading StreamFault
with_templates t (Ok ts) = Ok (record { templates = ts; taken = t })
with_templates t (Err fault) = Err fault

abbrev pub with_taken : Templates → Result Taken StreamFault → Result Reading StreamFault
with_taken ts (Ok t) = Ok (record { templates = ts; taken = t })
with_taken ts (Err fault) = Err fault

abbrev pub data_by : Option Template → Option Template → Taken → List ℕ → Result Taken StreamFault
data_by (Some template) other t content = flow_set template.fields t content
data_by None (Some template) t content = option_set template.fields t content
data_by None None t content = Err faults.NoTemplate

unfoldable pub set_read : Reading → SetParts → Result Reading StreamFault
set_read r set =
    if set.id == 2 then with_templates r.taken (template_set r.templates kinds.Plain set.content)
    else if set.id == 3 then with_templates r.taken (template_set r.templates kinds.Options set.content)
    else with_taken r.templates (data_by (at_number r.templates.plain set.id) (at_number r.templates.options set.id)
    r.taken set.content)

unfoldable pub sets_read : Reading → List SetParts → Result Reading StreamFault
sets_read r [] = Ok r
sets_read r (s ∷ ss) = elim (set_read r s) [ Ok next ↦ sets_read next ss | Err fault ↦ Err fault ]

-- ---- messages

-- an observation domain that has had no message
abbrev pub new_domain : Domain
new_domain = record { templates = no_templates; next = None }

abbrev pub domain_of : Option Domain → Domain
domain_of (Some domain) = domain
domain_of None = new_domain

-- what a session knows: its observation domains by number, the waiting records, and the numbers of gaps and of skipped
-- records
pub record Known : Type 0 where
  pub domains : List (ℕ × Domain)
  pub waiting : List Record
  pub gaps : ℕ
  pub skipped : ℕ

-- a message whose sequence number is not the expected one is a gap (section 3.1)
abbrev pub gaps_after : ℕ → Option ℕ → ℕ → ℕ
gaps_after gaps None sequence = gaps
gaps_after gaps (Some next) sequence = if next == sequence then gaps else (gaps + 1) % 2 ^ 64

-- the entry of an observation domain is replaced by a new one
abbrev pub with_domain : List (ℕ × Domain) → ℕ → Domain → List (ℕ × Domain)
with_domain domains number domain = with_entry (without_entry domains number) number domain

abbrev pub known_after : Known → Message → Domain → Result Reading StreamFault → Result Known StreamFault
known_after k m domain (Ok r) = Ok (record {
  domains = with_domain k.domains m.header.observation_domain
      (record { templates = r.templates; next = Some ((m.header.sequence_number + r.taken.count) % 2 ^ 32) });
  waiting = r.taken.waiting;
  gaps = gaps_after k.gaps domain.next m.header.sequence_number;
  skipped = r.taken.skipped;
})
known_after k m domain (Err fault) = Err fault

-- the sets are read under the templates of an observation domain
abbrev pub read_under : Known → Message → Domain → Result Known StreamFault
read_under k m domain = known_after k m domain
    (sets_read (record {
      templates = domain.templates;
      taken =
          record { waiting = k.waiting; skipped = k.skipped; count = 0 };
    }) m.sets)

-- The sets are read under the templates of the message's observation domain. The first fault refuses the message.
unfoldable pub message_read : Known → Message → Result Known StreamFault
message_read k m = read_under k m (domain_of (at_number k.domains m.header.observation_domain))

-- what remains when a message is refused: the records before it and the numbers, but no template
abbrev pub without_domains : Known → Known
without_domains k = record { domains = []; waiting = k.waiting; gaps = k.gaps; skipped = k.skipped }
