-- What is found at one destination, and at one collecting process.
use Rattle.std.proofs.Common.{◌≡◌, ℕ, zero, ◌<◌, ◌≤◌, true, false, List, [], ◌∷◌, length, get_or, Option, Some, None, refl, sym, ap, ◌∙◌, subst, arith, slice_get, IfSome, IfNone}
use Rattle.std.specs.Option.{is_some}
use Rattle.std.proofs.lemmas.Option.{slice_get_past}
use Rattle.fx_boxes.specs.Boxes.{Bounds}
use Rattle.fx_layout.specs.Keys.{Layout}
use Rattle.fx_tables.specs.Network.{Exporter, Net, Process, before}
use Rattle.fx_leaf.specs.declared.cause.Cause.{Cause}
use Rattle.fx_leaf.specs.declared.verdict.Fate.TheVariants.{Never}
use Rattle.fx_leaf.specs.Causes.{IsCauseAt, IsCauseIn, LeadsOn, SendsOn}
use Rattle.fx_leaf.specs.Tables.{Table, Tables, entry, handled_entry}
use Rattle.fx_leaf.specs.Verdicts.{Verdict, destination_verdict, process_verdict}
use Rattle.fx_leaf.proofs.CausesFound.{found_there}

pub none_of : (v : Verdict) → is_some v ≡ false → v ≡ None
none_of None h = refl
none_of (Some f) h = absurd (cc)

pub some_of : (v : Verdict) → is_some v ≡ true → v ≡ None → ⊥
some_of None h e = absurd (cc)
some_of (Some f) h e = absurd (cc)

-- what stands at a place of a list that is another one
pub there_too : {A : Type 0} (xs ys : List A) (k : ℕ) (x : A) → xs ≡ ys → k < length xs → x ≡ get_or xs k x
    → slice_get ys k ≡ Some x
there_too xs ys k x same lt is = ap (λ zs. slice_get zs k) (sym same) ∙ found_there xs k x lt is

pub past_too : {A : Type 0} (xs ys : List A) (k : ℕ) → xs ≡ ys → length xs ≤ k → slice_get ys k ≡ None
past_too xs ys k same le = ap (λ zs. slice_get zs k) (sym same) ∙ slice_get_past xs k le

-- ---- at a destination with this link

module _ (table : Table) (net : Net) (number link : ℕ) (d : Option ℕ) (is : d ≡ Some link) where
  led : (o : Option ℕ) → slice_get net.links link ≡ o → destination_verdict (entry table) net number d ≡ None
      → process_verdict (entry table) number o ≡ None
  led o at h = subst (λ (x : Option ℕ). process_verdict (entry table) number x ≡ None) at
      (subst (λ (x : Option ℕ). destination_verdict (entry table) net number x ≡ None) is h)

  -- the link isn't there
  pub no_link : slice_get net.links link ≡ None → destination_verdict (entry table) net number d ≡ None → ⊥
  no_link at h = never (led None at h)
    where
      never : Some Never ≡ None → ⊥
      never e = absurd (cc)

  -- it leads to a process with a verdict
  pub with_verdict : (p : ℕ) → slice_get net.links link ≡ Some p → (entry table p number ≡ None → ⊥)
      → destination_verdict (entry table) net number d ≡ None → ⊥
  with_verdict p at some h = some (led (Some p) at h)

  -- it leads to one without
  pub without_verdict : (p : ℕ) → slice_get net.links link ≡ Some p → entry table p number ≡ None
      → LeadsOn table net number (d ∷ []) p
  without_verdict p at none = record { link = link; among = (zero, omega arith, is); leads = at; none = none }

-- ---- behind the exporting process at a place

pub by_place : (table : Table) (net : Net) (number place : ℕ) (exporters : List Exporter) (e : Exporter)
    (ds : List (Option ℕ)) (o : Option ℕ) → exporters ≡ net.exporters → place < length exporters → e
    ≡ get_or exporters place e → ds ≡ e.destinations
    → IfSome o (LeadsOn table net number ds)
    → IfSome o (SendsOn table net number (before (slice_get net.exporters place) []))
by_place table net number place exporters e ds None same lt at is h = tt
by_place table net number place exporters e ds (Some process) same lt at is h =
    subst (λ (x : Option Exporter). SendsOn table net number (before x []) process)
    (sym (there_too exporters net.exporters place e same lt at))
    (record {
      exporter = e;
      sends = (zero, omega arith, refl);
      on =
          subst (λ (xs : List (Option ℕ)). LeadsOn table net number xs process) is h;
    })

-- ---- at a collecting process

module _ (t : Tables) (region : Bounds) (table : Table) (process number : ℕ) where
  abbrev handled : Layout → Option Process → Verdict
  handled layout o = handled_entry table t.net t.numbering region number layout o

  -- it isn't there
  pub no_process : slice_get t.net.processes process ≡ None → (layout : Layout)
      → handled layout (slice_get t.net.processes process) ≡ None → ⊥
  no_process at layout h = never (subst (λ (o : Option Process). handled layout o ≡ None) at h)
    where
      never : Some Never ≡ None → ⊥
      never e = absurd (cc)

  module _ (layout : Layout) (p : Process) (layout_is : slice_get t.numbering.layouts number ≡ Some layout)
      (process_is : slice_get t.net.processes process ≡ Some p) where
    pub cause_there : (r : Option Cause) → IfSome r (IsCauseIn t region table number layout p)
        → IfSome r (IsCauseAt t region table process number)
    cause_there None h = tt
    cause_there (Some cause) h = record {
      layout = layout;
      at = p;
      layout_is = layout_is;
      process_is =
          process_is;
      is_cause = h;
    }

    pub no_cause_there : (r : Option Cause) → IfNone r (handled layout (Some p) ≡ None → ⊥)
        → IfNone r ((other : Layout) → slice_get t.numbering.layouts number ≡ Some other
        → handled other (slice_get t.net.processes process) ≡ None → ⊥)
    no_cause_there (Some cause) h = tt
    no_cause_there None none = λ other is h.
        let all : Some other ≡ Some layout = sym is ∙ layout_is in
        let same : other ≡ layout = cc in
        none (subst (λ (l : Layout). handled l (Some p) ≡ None) same
        (subst (λ (o : Option Process). handled other o ≡ None) process_is h))
