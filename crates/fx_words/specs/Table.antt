-- The table of refusals in words.
use Rattle.std.specs.Prelude.{ℕ, ◌==◌, ◌++◌, List, Option, map}
use Rattle.std.specs.List.{find}
use Rattle.fx_words.specs.Words.{Words, words_at}
use Rattle.fx_words.specs.declared.devices.TheConstants.{DEVICES}
use Rattle.fx_words.specs.declared.networks.TheConstants.{NETWORKS}
use Rattle.fx_words.specs.declared.traffic.TheConstants.{TRAFFIC}
use Rattle.fx_words.specs.declared.certificates.TheConstants.{CERTIFICATES}
use Rattle.fx_words.specs.declared.refutations.TheConstants.{REFUTATIONS}
use Rattle.fx_words.specs.declared.streams.TheConstants.{STREAMS}
use Rattle.fx_words.specs.declared.captures.TheConstants.{CAPTURES}
use Rattle.fx_words.specs.declared.runs.TheConstants.{RUNS}
use Rattle.fx_words.specs.declared.machine.TheConstants.{MACHINE}

-- the refusals of documents and devices
unfoldable pub devices : List Words
devices = map (λ r. words_at r.0 r.1.now r.2.now r.3.now r.4.now) DEVICES.now

-- the refusals of networks
unfoldable pub networks : List Words
networks = map (λ r. words_at r.0 r.1.now r.2.now r.3.now r.4.now) NETWORKS.now

-- the refusals of traffic declarations
unfoldable pub traffic : List Words
traffic = map (λ r. words_at r.0 r.1.now r.2.now r.3.now r.4.now) TRAFFIC.now

-- the refusals of certificates and of joins of certified parts
unfoldable pub certificates : List Words
certificates = map (λ r. words_at r.0 r.1.now r.2.now r.3.now r.4.now) CERTIFICATES.now

-- the refusals of refutations
unfoldable pub refutations : List Words
refutations = map (λ r. words_at r.0 r.1.now r.2.now r.3.now r.4.now) REFUTATIONS.now

-- the refusals of searches and streams
unfoldable pub streams : List Words
streams = map (λ r. words_at r.0 r.1.now r.2.now r.3.now r.4.now) STREAMS.now

-- the refusals of captures
unfoldable pub captures : List Words
captures = map (λ r. words_at r.0 r.1.now r.2.now r.3.now r.4.now) CAPTURES.now

-- the refusals of bundles, schedules, runs and totals
unfoldable pub runs : List Words
runs = map (λ r. words_at r.0 r.1.now r.2.now r.3.now r.4.now) RUNS.now

-- the refusals of files, memory and long lines
unfoldable pub machine : List Words
machine = map (λ r. words_at r.0 r.1.now r.2.now r.3.now r.4.now) MACHINE.now

-- all of them, in the order of their numbers
abbrev pub table : List Words
table = (((((((devices ++ networks) ++ traffic) ++ certificates) ++ refutations) ++ streams) ++ captures) ++ runs)
    ++ machine

-- the first of some rows that has a number
abbrev pub row_of : ℕ → List Words → Option Words
row_of number rows = find (λ words. words.number == number) rows
