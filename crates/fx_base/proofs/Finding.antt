-- The next line, among what a window holds.
use Rattle.std.proofs.Common.{◌≡◌, ℕ, ◌+◌, ◌-◌, ◌*◌, ◌≤◌, ◌<◌, List, length, Result, Ok, refl, sym, ap, subst, ◌∙◌, arith, inl, inr}
use Rattle.std.proofs.lemmas.Bool.{cases_lt, le-ltb}
use Rattle.std.proofs.lemmas.List.{take_all}
use Rattle.fx_base.proofs.Asked.{asked_further, none_since}
use Rattle.fx_base.proofs.Filled.{Fills}
use Rattle.fx_base.specs.Device.{IsAsked}
use Rattle.fx_base.specs.Limits.{call_limit, line_length_limit}
use Rattle.fx_base.specs.Lines.{line_len}
use Rattle.fx_base.specs.Part.{IsPart, IsWhyNoLine, calls_of_part}
use Rattle.fx_base.specs.Window.{Held, octets_of}
use Rattle.fx_base.specs.declared.fault.Fault.{Fault}
use Rattle.fx_base.specs.declared.part.LinePart.{LinePart}
use Rattle.fx_base.specs.declared.part.LineStop.{LineStop}
use Rattle.fx_base.specs.declared.part.TheConstants.{ROOM}

-- what was read into a window so far
abbrev pub IsReading : Held → Held → Type 0
IsReading old new = record {
  octets : octets_of new ≡ octets_of old;
  room : new.room ≡ ROOM;
  more : length old.held ≤ length new.held;
  moved : length old.held < length new.held → old.calls < new.calls;
  few : old.calls < new.calls → new.calls ≤ call_limit;
  calls : old.calls ≤ new.calls;
  gained : new.calls + length old.held ≤ old.calls + length new.held;
  asked : IsAsked old.asked (new.calls - old.calls) new.asked;
}

-- the line that was found, and why none was
abbrev pub Finds : Held → Held → LinePart → Type 0
Finds old new p = record {
  octets : octets_of new ≡ octets_of old;
  room : new.room ≡ ROOM;
  part : IsPart p new.held new.left;
  smaller : 0 < p.taken → (call_limit - new.calls) * (ROOM + 1) + (length new.held - p.taken)
      < (call_limit - old.calls) * (ROOM + 1) + length old.held;
  spent : new.calls + length old.held ≤ old.calls + length new.held + calls_of_part p;
  calls : old.calls ≤ new.calls;
  asked : IsAsked old.asked (new.calls - old.calls) new.asked;
  stop : Unit {0};
}

abbrev pub Stops : Held → Held → LineStop → Type 0
Stops old new stop = record {
  octets : octets_of new ≡ octets_of old;
  room : new.room ≡ ROOM;
  part : Unit {0};
  smaller : Unit {0};
  spent : Unit {0};
  calls : old.calls ≤ new.calls;
  asked : IsAsked old.asked (new.calls - old.calls) new.asked;
  stop : IsWhyNoLine stop old new;
}

pub nothing_read : (w : Held) → w.room ≡ ROOM → IsReading w w
nothing_read w room = record {
  octets = refl;
  room = room;
  more = omega arith;
  moved = λ more. omega (arith, more);
  few = λ more. omega (arith, more);
  calls = omega arith;
  gained = omega arith;
  asked = none_since w.asked w.calls;
}

pub more_read : (old w new : Held) (result : Result Unit Fault) → IsReading old w
    → Fills w new (length w.held + 1) result → (length new.held ≡ length w.held → ⊥) → IsReading old new
more_read old w new result is fills other =
    let more : length w.held + 1 ≤ length new.held = omega (arith, fills.fits.0, other) in
    record {
      octets = fills.octets ∙ is.octets;
      room = fills.room ∙ is.room;
      more = omega (arith, is.more, more);
      moved = λ _. omega (arith, is.calls, fills.fits.2 (omega (arith, more)));
      few = λ _. fills.calls.1;
      calls = omega (arith, is.calls, fills.calls.0);
      gained = omega (arith, is.gained, fills.spent.1 more);
      asked = asked_further old.asked w.asked new.asked old.calls w.calls new.calls is.calls fills.calls.0 is.asked
          fills.asked;
    }

fewer_left : (calls0 calls count0 rest : ℕ) → rest ≤ ROOM → calls0 ≤ calls → (calls0 < calls → calls ≤ call_limit)
    → (calls ≤ calls0 → rest < count0) → (call_limit - calls) * (ROOM + 1) + rest < (call_limit - calls0) * (ROOM + 1)
    + count0
fewer_left calls0 calls count0 rest within more few same =
    elim (cases_lt calls0 calls) [
      | inl lt ↦ omega (arith, within, lt, few lt)
      | inr le ↦ omega (arith, more, le, same le)
    ]

no_more : (old w : Held) → IsReading old w → w.calls ≤ old.calls → length w.held ≤ length old.held
no_more old w is le =
    elim (cases_lt (length old.held) (length w.held)) [
      | inl more ↦ omega (arith, is.moved more, le)
      | inr none ↦ none
    ]

-- a line feed ends it
pub found : (old w : Held) (bytes : List ℕ) (n : ℕ) → IsReading old w → bytes ≡ w.held → length bytes ≤ w.room
    → (n ≡ line_len bytes) × (n < length bytes) → n ≤ line_length_limit
    → Finds old w (record { line = n; taken = n + 1 })
found old w bytes n is same room feed short =
    let size : length bytes ≡ length w.held = ap length same in
    record {
      octets = is.octets;
      room = is.room;
      part = subst (λ held. IsPart (record { line = n; taken = n + 1 }) held w.left) same (record {
        line = omega arith;
        taken = omega (arith, feed.1);
        short = short;
        first = inl (feed.0, feed.1, refl);
      });
      smaller = λ _. fewer_left old.calls w.calls (length old.held) (length w.held - (n + 1))
          (omega (arith, size, room, is.room)) is.calls is.few (λ le. omega (arith, size, feed.1, no_more old w is le));
      spent = omega (arith, is.gained);
      calls = is.calls;
      asked = is.asked;
      stop = tt;
    }

-- all that is held is the last line
pub found_last : (old w new : Held) (bytes : List ℕ) → IsReading old w → bytes ≡ w.held → length bytes ≤ w.room
    → line_len bytes ≡ length bytes → length bytes ≤ line_length_limit → Fills w new (length bytes + 1) (Ok tt)
    → length new.held ≡ length bytes → Finds old new (record { line = length bytes; taken = length bytes })
found_last old w new bytes is same room none short fills all =
    let size : length bytes ≡ length w.held = ap length same in
    let held : bytes ≡ new.held = same ∙ sym fills.front ∙ take_all (length w.held) new.held (omega (arith, size, all))
    in
    record {
      octets = fills.octets ∙ is.octets;
      room = fills.room ∙ is.room;
      part = subst (λ h. IsPart (record { line = length bytes; taken = length bytes }) h new.left) held (record {
        line = omega arith;
        taken = omega arith;
        short = short;
        first = inr (none, refl, refl, fills.enough (omega (arith, all)));
      });
      smaller = λ some. fewer_left old.calls new.calls (length old.held) (length new.held - length bytes)
          (omega (arith, all)) (omega (arith, is.calls, fills.calls.0)) (λ _. fills.calls.1)
          (λ le. omega (arith, all, some, size, no_more old w is (omega (arith, le, fills.calls.0))));
      spent = rw (le-ltb (length bytes) (length bytes) (omega arith)) (omega (arith, is.gained, fills.spent.0));
      calls = omega (arith, is.calls, fills.calls.0);
      asked = asked_further old.asked w.asked new.asked old.calls w.calls new.calls is.calls fills.calls.0 is.asked
          fills.asked;
      stop = tt;
    }

pub stops : (old w : Held) (stop : LineStop) → IsReading old w → IsWhyNoLine stop old w → Stops old w stop
stops old w stop is why = record {
  octets = is.octets;
  room = is.room;
  part = tt;
  smaller = tt;
  spent = tt;
  calls = is.calls;
  asked = is.asked;
  stop = why;
}

pub stops_reading : (old w new : Held) (want : ℕ) (result : Result Unit Fault) (stop : LineStop) → IsReading old w
    → Fills w new want result → IsWhyNoLine stop old new → Stops old new stop
stops_reading old w new want result stop is fills why = record {
  octets = fills.octets ∙ is.octets;
  room = fills.room ∙ is.room;
  part = tt;
  smaller = tt;
  spent = tt;
  calls = omega (arith, is.calls, fills.calls.0);
  asked = asked_further old.asked w.asked new.asked old.calls w.calls new.calls is.calls fills.calls.0 is.asked
      fills.asked;
  stop = why;
}
