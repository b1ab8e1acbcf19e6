-- `configuration_writer::glancing::see_set_clock` meets its contract: its day and its time are possible, and so fit their fields.
use mathlib.Core.Path.{refl}
use native.Mathlib.Omega.{arith}
use Rattle.body_form_glance.proofs.Forms.{none_seen}
use Rattle.configuration_writer.proofs.Glances.{seen_to, date_laid, clock_laid, set_clock_laid}
use Rattle.ground_choices.proofs.Tests.{met}
use Rattle.configuration_writer.proofs.glancing.see_set_clock.Goals as goal

pub returns-then-tape-k-lt6 : goal.returns-then-tape-k-lt6
returns-then-tape-k-lt6 c = none_seen c.unseen.ensures

pub returns-then-not-is_day : goal.returns-then-not-is_day
returns-then-not-is_day c = none_seen c.unseen-then-not-is_day.ensures

pub returns-then-not-is_time : goal.returns-then-not-is_time
returns-then-not-is_time c = none_seen c.unseen-then-not-is_time.ensures

pub returns : goal.returns
returns c = seen_to refl refl (omega arith) (omega arith)
    (set_clock_laid (date_laid (omega arith) (met _ c.is_day.ensures c.if-not-is_day.false-raw))
    (clock_laid (omega arith) (met _ c.is_time.ensures c.if-not-is_time.false-raw)))
