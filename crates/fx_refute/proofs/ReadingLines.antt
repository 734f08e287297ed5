-- What the lines of a refutation's text say, as a reader of lines goes on, and where the reader stops, that reading
-- stops.
use Rattle.std.proofs.Common.{◌≡◌, ℕ, ◌<◌, ◌≤◌, ◌⊎◌, ◌&&◌, cond, true, false, codes, List, [], ◌∷◌, length, Option, Some, None, Result, Ok, Err, IfErr, IfSome, refl, ap, sym, ◌∙◌, inl, inr, lt-ltb}
use Rattle.std.specs.Prelude.{nat_lt}
use Rattle.std.specs.Str.{bytes_eq}
use Rattle.std.proofs.lemmas.Bool.{le-ltb}
use Rattle.fx_base.specs.declared.fault.Fault.{Fault}
use Rattle.fx_base.specs.declared.fault.Place.TheVariants as places
use Rattle.fx_base.specs.Device.{MayBeLeft}
use Rattle.fx_base.specs.Fault.{fault_at}
use Rattle.fx_base.specs.Lines.{Lines, AtLine, AtTextEnd, GoesOnToLines, text_lines, next_number, line_len, RefusesText, StopsText, Fails}
use Rattle.fx_base.proofs.GoingOn.{cut_off_behind, may_follow, nothing_left, something_follows, something_left}
use Rattle.fx_tables.specs.declared.packet.Packet.{Packet}
use Rattle.fx_run_text.specs.declared.step.Step.{Step}
use Rattle.fx_run_text.specs.declared.text_version.TextVersion.{TextVersion}
use Rattle.fx_run_text.specs.declared.text_version.TextVersion.TheVariants.{One, Two}
use Rattle.fx_run_text.specs.declared.run_line.RunLine.{RunLine}
use Rattle.fx_run_text.specs.declared.run_line.RunLine.TheVariants as line
use Rattle.fx_run_text.specs.RunReading.{TextLine, at_line}
use Rattle.fx_run_text.proofs.RunLines.{MayBeLong, long_first, stops}
use Rattle.fx_refute.specs.ReadingOn.{FirstIsWrong, Leads, NextIsWrong, Says}
use Rattle.fx_refute.specs.RefutationReading.{MayGive, MayReadRefutation, Read, end_of_lines, from_packet, from_step, line_said, only, packet_behind, refutation_in, steps_behind, with_step}
use Rattle.fx_machine.specs.Limits.{step_limit}
use Rattle.fx_refute.specs.Refutations.{Refutation}

-- ---- from line to line

pub leads_on : (a b c : Lines) (f g h : List TextLine → Read) → Leads a b f g → Leads b c g h → Leads a c f h
leads_on a b c f g h first next rest left =
    let mid = next rest left in
    let before = first mid.0 mid.1 in
    (before.0, before.1, before.2 ∙ mid.2)

pub leads_nowhere : (a : Lines) (f : List TextLine → Read) → Leads a a f f
leads_nowhere a f rest left = (rest, left, refl)

pub gives_before : (a b : Lines) (f g : List TextLine → Read) (r : Read) → Leads a b f g → MayGive b g r → MayGive a f r
gives_before a b f g r first (rest, left, is) =
    let before = first rest left in
    (before.0, before.1, before.2 ∙ is)

short : (old new : Lines) → AtLine old new → nat_lt 4096 (length new.line) ≡ false
short old new at = le-ltb 4096 (length new.line) at.short

module _ (version : TextVersion) where
  -- reading that goes by what the first of the lines behind the line n says
  record GoesBy (n : ℕ) (f : List TextLine → Read) (go : ℕ → Result RunLine ℕ → List TextLine → Read) : Type 0 where
    some : (l : TextLine) (ls : List TextLine) → f (l ∷ ls) ≡ go (next_number n) (line_said version l) ls
    none : f [] ≡ Err (at_line 501 (next_number n))
    wrong : (number : ℕ) (ls : List TextLine) → go (next_number n) (Err number) ls
        ≡ Err (at_line number (next_number n))

  said_leads : (old new : Lines) (x : RunLine) (f : List TextLine → Read)
      (go : ℕ → Result RunLine ℕ → List TextLine → Read) → GoesBy old.number f go → Says version old new x
      → Leads old new f (go new.number (Ok x))
  said_leads old new x f go by says rest left =
      let line = says.line rest left in (
        line.0,
        line.1,
        ap f line.2.1 ∙ by.some line.2.0 (text_lines rest)
            ∙ ap (λ y. go (next_number old.number) y (text_lines rest)) line.2.2
            ∙ ap (λ n. go n (Ok x) (text_lines rest)) (sym says.number),
      )

  wrong_gives : (old : Lines) (e : Fault) (f : List TextLine → Read) (go : ℕ → Result RunLine ℕ → List TextLine → Read)
      → GoesBy old.number f go → NextIsWrong version old e → MayGive old f (Err e)
  wrong_gives old e f go by (text, left, wrong) = (text, left, by_lines (text_lines text) wrong) where
    by_lines : (ls : List TextLine) → FirstIsWrong version old.number e ls → f ls ≡ Err e
    by_lines [] is = by.none ∙ ap (λ (x : Fault). Err x) (sym is)
    by_lines (l ∷ ls) (number, said, is) =
        by.some l ls ∙ ap (λ y. go (next_number old.number) y ls) said ∙ by.wrong number ls
        ∙ ap (λ (x : Fault). Err x) (sym is)

  -- ---- the packet's line, and a step's

  by_packet : (n : ℕ) → GoesBy n (packet_behind version n) (from_packet version)
  by_packet n = record { some = λ l ls. refl; none = refl; wrong = λ number ls. refl }

  abbrev step_go : Refutation → ℕ → Result RunLine ℕ → List TextLine → Read
  step_go r n x ls = from_step n r x ls (λ y. steps_behind version n y ls)

  by_step : (n : ℕ) (r : Refutation) → GoesBy n (steps_behind version n r) (step_go r)
  by_step n r = record { some = λ l ls. refl; none = refl; wrong = λ number ls. refl }

  -- a line whose fault is the same whatever follows it
  stands_wrong : (old new : Lines) (f g : List TextLine → Read) (r : Read) → Leads old new f g
      → ((ls : List TextLine) → g ls ≡ r) → MayGive old f r
  stands_wrong old new f g r leads all =
      let some = something_left new.left in
      gives_before old new f g r leads (some.0, some.1, all (text_lines some.0))

  pub packet_leads : (old new : Lines) (p : Packet) → Says version old new (line.Packet p)
      → Leads old new (packet_behind version old.number) (steps_behind version new.number (only p))
  packet_leads old new p says = said_leads old new (line.Packet p) (packet_behind version old.number)
      (from_packet version) (by_packet old.number) says

  pub no_packet_step : (old new : Lines) (s : Step) → Says version old new (line.Step s)
      → MayGive old (packet_behind version old.number) (Err (at_line 501 new.number))
  no_packet_step old new s says =
      stands_wrong old new (packet_behind version old.number) (from_packet version new.number (Ok (line.Step s))) _
      (said_leads old new (line.Step s) (packet_behind version old.number) (from_packet version)
      (by_packet old.number) says) (λ ls. refl)

  pub no_packet_end : (old new : Lines) → Says version old new line.End
      → MayGive old (packet_behind version old.number) (Err (at_line 501 new.number))
  no_packet_end old new says =
      stands_wrong old new (packet_behind version old.number) (from_packet version new.number (Ok line.End)) _
      (said_leads old new line.End (packet_behind version old.number) (from_packet version) (by_packet old.number)
      says) (λ ls. refl)

  pub packet_wrong : (old : Lines) (e : Fault) → NextIsWrong version old e
      → MayGive old (packet_behind version old.number) (Err e)
  packet_wrong old e wrong = wrong_gives old e (packet_behind version old.number) (from_packet version)
      (by_packet old.number) wrong

  step_leads : (old new : Lines) (r : Refutation) (x : RunLine) → Says version old new x
      → Leads old new (steps_behind version old.number r) (step_go r new.number (Ok x))
  step_leads old new r x says = said_leads old new x (steps_behind version old.number r) (step_go r)
      (by_step old.number r) says

  pub step_added : (old new : Lines) (r : Refutation) (s : Step) → length r.steps < step_limit
      → Says version old new (line.Step s) → Leads old new (steps_behind version old.number r)
      (steps_behind version new.number (with_step r s))
  step_added old new r s lt says rest left =
      let before = step_leads old new r (line.Step s) says rest left in (
        before.0,
        before.1,
        before.2 ∙ ap (λ b. cond b
            (steps_behind version new.number (with_step r s) (text_lines rest)) (Err (at_line 501 new.number)))
            (lt-ltb (length r.steps) step_limit lt),
      )

  pub too_many : (old new : Lines) (r : Refutation) (s : Step) → step_limit ≤ length r.steps
      → Says version old new (line.Step s) → MayGive old (steps_behind version old.number r)
      (Err (at_line 501 new.number))
  too_many old new r s le says =
      stands_wrong old new (steps_behind version old.number r) (step_go r new.number (Ok (line.Step s))) _
      (step_leads old new r (line.Step s) says)
      (λ ls. ap (λ b. cond b (steps_behind version new.number (with_step r s) ls) (Err (at_line 501 new.number)))
      (le-ltb (length r.steps) step_limit le))

  pub second_packet : (old new : Lines) (r : Refutation) (p : Packet) → Says version old new (line.Packet p)
      → MayGive old (steps_behind version old.number r) (Err (at_line 501 new.number))
  second_packet old new r p says =
      stands_wrong old new (steps_behind version old.number r) (step_go r new.number (Ok (line.Packet p))) _
      (step_leads old new r (line.Packet p) says) (λ ls. refl)

  pub end_leads : (old new : Lines) (r : Refutation) → Says version old new line.End
      → Leads old new (steps_behind version old.number r) (end_of_lines new.number r)
  end_leads old new r says = step_leads old new r line.End says

  pub step_wrong : (old : Lines) (r : Refutation) (e : Fault) → NextIsWrong version old e
      → MayGive old (steps_behind version old.number r) (Err e)
  step_wrong old r e wrong = wrong_gives old e (steps_behind version old.number r) (step_go r) (by_step old.number r)
      wrong

  -- ---- a line that a reader is at

  pub says_line : (old new : Lines) (x : RunLine) → AtLine old new → new.ended ≡ true
      → line_said version (new.line, new.ended) ≡ Ok x → Says version old new x
  says_line old new x at end_of_lines said = record {
    number = at.number;
    line = λ rest left.
        let before = at.lines rest (may_follow new rest end_of_lines left) in
        (before.0, before.1, ((new.line, new.ended), before.2, said));
  }

  pub says_nothing : (old new : Lines) (number : ℕ) → AtLine old new → line_said version (new.line, new.ended)
      ≡ Err number → NextIsWrong version old (at_line number new.number)
  says_nothing old new number at said =
      let some = something_follows old new at in
      let before = at.lines some.0 some.1 in
      (before.0, before.1, by_lines (text_lines before.0) before.2) where
        by_lines : (ls : List TextLine) {rest : List TextLine} → ls ≡ (new.line, new.ended) ∷ rest
            → FirstIsWrong version old.number (at_line number new.number) ls
        by_lines [] e = absurd (cc)
        by_lines (l ∷ ls) e = let same : l ≡ (new.line, new.ended) = cc in
            (number, ap (line_said version) same ∙ said, ap (at_line number) at.number)

  pub missing : (old new : Lines) → AtTextEnd old new → NextIsWrong version old (at_line 501 (next_number old.number))
  missing old new at = ([], nothing_left old.left new.left at.text, refl)

-- ---- where the reader stops

-- reading that refuses a first line that is too long
long_gives : (f : List TextLine → Read) (old : Lines) (e : Fault)
    → ((l : TextLine) (ls : List TextLine) → nat_lt 4096 (length l.0) ≡ true → f (l ∷ ls)
    ≡ Err (at_line 903 (next_number old.number))) → MayBeLong old e → MayGive old f (Err e)
long_gives f old e refuses (is, (text, left, long)) =
    let first = long_first text long in
    (text, left, ap f first.2 ∙ refuses first.0 first.1 first.3 ∙ ap (λ (x : Fault). Err x) (sym is))

pub first_refused : (old new : Lines) (e : Fault) → RefusesText old new e → Fails old new e
    ⊎ MayReadRefutation old (Err e)
first_refused old new e h = by_stop (stops old new e h) where
  by_stop : Fails old new e ⊎ MayBeLong old e → Fails old new e ⊎ MayReadRefutation old (Err e)
  by_stop (inl fails) = inl fails
  by_stop (inr long) = inr (long_gives (refutation_in old.number) old e (λ l ls is. rw is refl) long)

module _ (version : TextVersion) where
  long_first_line : (old : Lines) (e : Fault) → MayBeLong old e → NextIsWrong version old e
  long_first_line old e (is, (text, left, long)) =
      let first = long_first text long in
      (text, left, by_lines first.0 first.1 first.3 (text_lines text) first.2) where
        by_lines : (l : TextLine) (rest : List TextLine) → nat_lt 4096 (length l.0) ≡ true → (ls : List TextLine) → ls
            ≡ l ∷ rest → FirstIsWrong version old.number e ls
        by_lines l rest long [] same = absurd (cc)
        by_lines l rest long (m ∷ ls) same =
            let first : m ≡ l = cc in
            let said : line_said version l ≡ Err 903 = rw long refl in
            (903, ap (line_said version) first ∙ said, is)

  pub next_refused : (old new : Lines) (e : Fault) → RefusesText old new e → Fails old new e ⊎ NextIsWrong version old e
  next_refused old new e h = by_stop (stops old new e h) where
    by_stop : Fails old new e ⊎ MayBeLong old e → Fails old new e ⊎ NextIsWrong version old e
    by_stop (inl fails) = inl fails
    by_stop (inr long) = inr (long_first_line old e long)

pub end_refused : (old new : Lines) (e : Fault) → RefusesText old new e → Fails old new e
    ⊎ ((r : Refutation) → MayGive old (end_of_lines old.number r) (Err e))
end_refused old new e h = by_stop (stops old new e h) where
  by_stop : Fails old new e ⊎ MayBeLong old e → Fails old new e
      ⊎ ((r : Refutation) → MayGive old (end_of_lines old.number r) (Err e))
  by_stop (inl fails) = inl fails
  by_stop (inr long) = inr (λ r. long_gives (end_of_lines old.number r) old e (λ l ls is. rw is refl) long)

-- ---- the first line, and the end

-- reading of a line that the reader is at, whatever follows it
at_gives : (f : List TextLine → Read) (r : Read) (old new : Lines) → AtLine old new
    → ((ls : List TextLine) → f ((new.line, new.ended) ∷ ls) ≡ r) → MayGive old f r
at_gives f r old new at all =
    let some = something_follows old new at in
    let before = at.lines some.0 some.1 in
    (before.0, before.1, ap f before.2 ∙ all (text_lines some.0))

no_first : (n : ℕ) (l : TextLine) (ls : List TextLine) → nat_lt 4096 (length l.0) ≡ false
    → (l.1 && bytes_eq l.0 (codes "once-refutation 1")) ≡ false → (l.1 && bytes_eq l.0 (codes "once-refutation 2"))
    ≡ false → refutation_in n (l ∷ ls) ≡ Err (at_line 501 (next_number n))
no_first n l ls short one two = rw (short, one, two) refl

pub first_wrong : (old new : Lines) → AtLine old new → (new.ended && bytes_eq new.line (codes "once-refutation 1"))
    ≡ false → (new.ended && bytes_eq new.line (codes "once-refutation 2")) ≡ false
    → MayReadRefutation old (Err (at_line 501 new.number))
first_wrong old new at one two =
    at_gives (refutation_in old.number) _ old new at
    (λ ls. no_first old.number (new.line, new.ended) ls (short old new at) one two
    ∙ ap (λ n. Err (at_line 501 n)) (sym at.number))

begins : (version : TextVersion) (old new : Lines) → AtLine old new → new.ended ≡ true
    → ((ls : List TextLine) → refutation_in old.number ((new.line, new.ended) ∷ ls)
    ≡ packet_behind version (next_number old.number) ls)
    → Leads old new (refutation_in old.number) (packet_behind version new.number)
begins version old new at end_of_lines is rest left =
    let before = at.lines rest (may_follow new rest end_of_lines left) in (
      before.0,
      before.1,
      ap (refutation_in old.number) before.2
          ∙ is (text_lines rest)
          ∙ ap (λ n. packet_behind version n (text_lines rest)) (sym at.number),
    )

pub first_leads : (old new : Lines) → AtLine old new → new.ended ≡ true
    → (new.ended && bytes_eq new.line (codes "once-refutation 1")) ≡ true
    → Leads old new (refutation_in old.number) (packet_behind One new.number)
first_leads old new at end_of_lines one = begins One old new at end_of_lines (λ ls. rw (short old new at, one) refl)

pub second_leads : (old new : Lines) → AtLine old new → new.ended ≡ true
    → (new.ended && bytes_eq new.line (codes "once-refutation 1")) ≡ false
    → (new.ended && bytes_eq new.line (codes "once-refutation 2")) ≡ true
    → Leads old new (refutation_in old.number) (packet_behind Two new.number)
second_leads old new at end_of_lines one two =
    begins Two old new at end_of_lines (λ ls. rw (short old new at, one, two) refl)

pub ends_late : (old new : Lines) (r : Refutation) → AtLine old new
    → MayGive old (end_of_lines old.number r) (Err (at_line 501 new.number))
ends_late old new r at =
    at_gives (end_of_lines old.number r) _ old new at
    (λ ls. rw (short old new at) (ap (λ n. Err (at_line 501 n)) (sym at.number)))

-- ---- behind the lines that were read

pub fails_behind : (first old new : Lines) (e : Fault) → old.stopped ≡ None → GoesOnToLines first old → Fails old new e
    → Fails first new e
fails_behind first old new e going on (inl before) = absurd (cc)
fails_behind first old new e going on (inr (is, cut)) = inr (is, cut_off_behind first old new on cut)

-- a fault behind lines that were read
pub fault_behind : (first old new : Lines) (f g : List TextLine → Read) (e : Fault) → old.stopped ≡ None
    → GoesOnToLines first old → Leads first old f g → (e ≡ fault_at 900 places.None)
    ⊎ (Fails old new e ⊎ MayGive old g (Err e)) → (e ≡ fault_at 900 places.None)
    ⊎ (Fails first new e ⊎ MayGive first f (Err e))
fault_behind first old new f g e going on leads (inl memory) = inl memory
fault_behind first old new f g e going on leads (inr (inl fails)) =
    inr (inl (fails_behind first old new e going on fails))
fault_behind first old new f g e going on leads (inr (inr gives)) =
    inr (inr (gives_before first old f g (Err e) leads gives))

pub next_fault : (version : TextVersion) (old new : Lines) (f : List TextLine → Read) (e : Fault)
    → (NextIsWrong version old e → MayGive old f (Err e)) → (e ≡ fault_at 900 places.None)
    ⊎ (Fails old new e ⊎ NextIsWrong version old e) → (e ≡ fault_at 900 places.None)
    ⊎ (Fails old new e ⊎ MayGive old f (Err e))
next_fault version old new f e gives (inl memory) = inl memory
next_fault version old new f e gives (inr (inl fails)) = inr (inl fails)
next_fault version old new f e gives (inr (inr wrong)) = inr (inr (gives wrong))

pub end_fault : (old new : Lines) (r : Refutation) (e : Fault) → Fails old new e
    ⊎ ((r : Refutation) → MayGive old (end_of_lines old.number r) (Err e)) → (e ≡ fault_at 900 places.None)
    ⊎ (Fails old new e ⊎ MayGive old (end_of_lines old.number r) (Err e))
end_fault old new r e (inl fails) = inr (inl fails)
end_fault old new r e (inr late) = inr (inr (late r))

pub errs_behind : {A : Type 0} (r : Result A Fault) (first old new : Lines) (f g : List TextLine → Read) → old.stopped
    ≡ None → GoesOnToLines first old → Leads first old f g
    → IfErr r (λ e. (e ≡ fault_at 900 places.None) ⊎ (Fails old new e ⊎ MayGive old g (Err e)))
    → IfErr r (λ e. (e ≡ fault_at 900 places.None) ⊎ (Fails first new e ⊎ MayGive first f (Err e)))
errs_behind (Ok x) first old new f g going on leads h = tt
errs_behind (Err e) first old new f g going on leads h = fault_behind first old new f g e going on leads h
