-- A window that is filled.
use Rattle.std.proofs.Common.{◌≡◌, ℕ, ◌+◌, ◌-◌, ◌≤◌, ◌<◌, ◌⊎◌, Bool, true, List, [], length, take, drop, Option, IfSome, Result, Ok, OnOk, IfErr, refl, sym, ap, subst, ◌∙◌, arith, slice_range}
use Rattle.std.proofs.lemmas.List.{length-take-le, length-drop, take-take, take_all}
use Rattle.std.specs.Io.KnownBytes.{prepend_known}
use Rattle.fx_base.proofs.Asked.{none_since}
use Rattle.fx_base.specs.Device.{IsAsked}
use Rattle.fx_base.specs.Fault.{fault_at}
use Rattle.fx_base.specs.Limits.{call_limit}
use Rattle.fx_base.specs.Refusals.{failed_read}
use Rattle.fx_base.specs.Window.{Held, IsWindow, octets_of, HasFailed}
use Rattle.fx_base.specs.declared.fault.Fault.{Fault}
use Rattle.fx_base.specs.declared.fault.Place.TheVariants as places

-- what a window sees of its buffer
abbrev pub seen : List ℕ → ℕ → ℕ → Option (List ℕ) → Bool → ℕ → ℕ → Held
seen bytes start end left failed calls asked =
    record {
      room = length bytes;
      held = slice_range bytes start end;
      left = left;
      failed = failed;
      calls =
          calls;
      asked = asked;
    }

pub held_count : (bytes : List ℕ) (start end : ℕ) → end ≤ length bytes → length (slice_range bytes start end)
    ≡ end - start
held_count bytes start end within = length-take-le (end - start) (drop start bytes)
    (omega (arith, length-drop start bytes, within))

-- what filling it has to do
abbrev pub Fills : Held → Held → ℕ → Result Unit Fault → Type 0
Fills old new want result = record {
  octets : octets_of new ≡ octets_of old;
  front : take (length old.held) new.held ≡ old.held;
  room : new.room ≡ old.room;
  enough : OnOk result (length new.held < want → IfSome new.left (λ left. left ≡ []));
  idle : want ≤ length old.held → new ≡ old;
  fits : (length old.held ≤ length new.held) × (length new.held ≤ old.room)
      × (length old.held < length new.held → old.calls < new.calls);
  spent : (new.calls + length old.held ≤ old.calls + length new.held + 1)
      × (want ≤ length new.held → new.calls + length old.held ≤ old.calls + length new.held);
  calls : (old.calls ≤ new.calls) × (new.calls ≤ call_limit);
  asked : IsAsked old.asked (new.calls - old.calls) new.asked;
  err : IfErr result (λ e. (e ≡ fault_at failed_read places.None) × HasFailed old new);
}

-- what was gathered behind the octets that stand at the buffer's front
abbrev pub Gathers : List ℕ → ℕ → Held → List ℕ → ℕ → Held → ℕ → Result Unit Fault → Type 0
Gathers before n old after end new want result = record {
  octets : prepend_known (take end after) new.left ≡ prepend_known (take n before) old.left;
  front : take n after ≡ take n before;
  enough : OnOk result (end < want → IfSome new.left (λ left. left ≡ []));
  fits : (n ≤ end) × (end ≤ length before) × (n < end → old.calls < new.calls);
  spent : (new.calls + n ≤ old.calls + end + 1) × (want ≤ end → new.calls + n ≤ old.calls + end);
  calls : (old.calls ≤ new.calls) × (new.calls ≤ call_limit);
  asked : IsAsked old.asked (new.calls - old.calls) new.asked;
  err : IfErr result (λ e. (e ≡ fault_at failed_read places.None)
      × ((new.failed ≡ true) ⊎ ((new.calls ≡ call_limit)
      × IfSome old.left (λ left. call_limit ≤ old.calls + length left))));
}

-- a window that holds as much as is wanted
pub nothing_to_fill : (w : Held) (want : ℕ) → want ≤ length w.held → length w.held ≤ w.room → w.calls ≤ call_limit
    → Fills w w want (Ok tt)
nothing_to_fill w want all room calls = record {
  octets = refl;
  front = take_all (length w.held) w.held (omega arith);
  room = refl;
  enough = λ few. absurd (omega (arith, few, all));
  idle = λ _. refl;
  fits = (omega arith, room, λ more. omega (arith, more));
  spent = (omega arith, λ _. omega arith);
  calls = (omega arith, calls);
  asked = none_since w.asked w.calls;
  err = tt;
}

module _ (items before after : List ℕ) (start end last want : ℕ) (left left' : Option (List ℕ)) (failed failed' : Bool)
    (calls calls' asked asked' : ℕ) (result : Result Unit Fault) where
  abbrev old : Held
  old = seen items start end left failed calls asked

  abbrev new : List ℕ → Held
  new held = record { room = length after; held = held; left = left'; failed = failed'; calls = calls'; asked = asked' }

  with_front : (held : List ℕ) → held ≡ take last after → IsWindow (length items) start end calls → end - start < want
      → take (end - start) before ≡ slice_range items start end → length before ≡ length items → length after
      ≡ length before → Gathers before (end - start) old after last (new held) want result
      → Fills old (new held) want result
  with_front held is_front is few moved size size' g =
      let count : length (slice_range items start end) ≡ end - start = held_count items start end is.end in
      let count' : length held ≡ last = ap length is_front ∙ length-take-le last after (omega (arith, g.fits.1, size'))
      in
      let kept : take (end - start) held ≡ slice_range items start end = ap (take (end - start)) is_front
      ∙ take-take (end - start) last after g.fits.0 ∙ g.front ∙ moved in
      record {
        octets = ap (λ octets. prepend_known octets left') is_front ∙ g.octets
            ∙ ap (λ octets. prepend_known octets left) moved;
        front = ap (λ n. take n held) count ∙ kept;
        room = size' ∙ size;
        enough = subst (λ n. OnOk result (n < want → IfSome left' (λ octets. octets ≡ []))) (sym count') g.enough;
        idle = λ all. absurd (omega (arith, rw count at all, few));
        fits = rw (count, count') (g.fits.0, omega (arith, g.fits.1, size), g.fits.2);
        spent = rw (count, count') g.spent;
        calls = g.calls;
        asked = g.asked;
        err = g.err;
      }

  pub filled : IsWindow (length items) start end calls → end - start < want → take (end - start) before
      ≡ slice_range items start end → length before ≡ length items → length after ≡ length before
      → Gathers before (end - start) old after last (new (slice_range after 0 last)) want result
      → Fills old (seen after 0 last left' failed' calls' asked') want result
  filled = with_front (slice_range after 0 last) (let all : last - 0 ≡ last = omega arith in ap (λ n. take n after) all)
