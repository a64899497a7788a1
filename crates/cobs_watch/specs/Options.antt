-- The tasks that the command line can ask for.
use Rattle.std.specs.Prelude.{ℕ, ◌≡◌, ◌≤◌, List, Option, option_map}
use Rattle.cobs_watch.specs.declared.options.Task.{Task}
use Rattle.cobs_watch.specs.declared.options.Task.TheVariants.{Show, Send}

-- a task that the command line can ask for; if the task shows a stream, the greatest length of a message is at most 16
-- MiB
abbrev pub IsOffered : Task → Type 0
IsOffered (Show show) = show.settings.length ≤ 16777216
IsOffered (Send settings) = Unit {0}

-- `path` is the path of the stream that a task shows, if one was given
abbrev pub HasPath : (path : Option (List ℕ)) → Task → Type 0
HasPath path (Show show) = option_map (λ text. text.now) show.path ≡ path
HasPath path (Send settings) = Unit {0}
