-- When two sides meet again.
use Rattle.std.specs.Prelude.{ℕ, ◌+◌, ◌*◌, ◌-◌, ◌^◌, ◌==◌, ◌&&◌, if◌then◌else◌, min, max, nat_lt, Option, Some, None}
use Rattle.mvd_meet.specs.declared.pace.Met.{Met}
use Rattle.mvd_meet.specs.declared.pace.Met.TheVariants.{Well, Stuck, Failed}
use Rattle.mvd_meet.specs.declared.pace.Pace.{Pace}
use Rattle.mvd_meet.specs.declared.schedule.Author.{Author}
use Rattle.mvd_meet.specs.declared.schedule.Author.TheVariants.{Others, Session}
use Rattle.mvd_meet.specs.declared.schedule.Schedule.{Schedule}
use Rattle.mvd_sync.specs.declared.report.Report.{Report}

-- a session that left keys and exchanged none is stuck
abbrev pub ended_of : Report → Met
ended_of report = if (report.keys == 0) && nat_lt 0 report.refused then Stuck else Well

-- twice a pause, but a minute at the most, or what sessions are apart, if that is more
abbrev pub doubled : ℕ → ℕ → ℕ
doubled pause every = min (pause * 2) (max every 60)

-- the seconds after a session that ended so: those that sessions are apart; after a fault 1, and then twice as many in
-- a row of faults; after a session that left keys and did nothing else twice as many as they are apart, and then as
-- many again
abbrev pub pause_by : Met → Met → ℕ → ℕ → ℕ
pause_by Well last pause every = every
pause_by Stuck Stuck pause every = doubled pause every
pause_by Stuck last pause every = doubled every every
pause_by Failed Failed pause every = doubled pause every
pause_by Failed last pause every = 1

abbrev pub pause_after : Met → Pace → ℕ → ℕ
pause_after ended pace every = pause_by ended pace.last pace.pause every

-- five milliseconds after a change; after one that a session with the peer itself made, a second
abbrev pub settle_of : Author → ℕ
settle_of Others = 5
settle_of Session = 1000

-- the first of several counts
abbrev pub news_at : Author → Option ℕ → ℕ → Option ℕ
news_at author (Some news) now = Some (min news (min (now + settle_of author) (2 ^ 64 - 1)))
news_at author None now = Some (min (now + settle_of author) (2 ^ 64 - 1))

-- after a fault a change does not count
abbrev pub with_news : Met → Option ℕ → ℕ → ℕ
with_news Failed news next = next
with_news ended None next = next
with_news ended (Some news) next = min next news

-- WHEN A PEER IS DUE
abbrev pub due_of : Schedule → ℕ
due_of s = with_news s.pace.last s.news s.next
