use Rattle.std.specs.Prelude.{Some}
use Rattle.sig_watch.proofs.watching.serve_watch.Given as goal

-- what the node was before its watch was opened
abbrev pub ghosts-watch-O-Opened : goal.ghosts-watch-O-Opened
ghosts-watch-O-Opened g a = record { before = Some a.node }

-- the book that was just opened
abbrev pub ghosts-watch-O-Naming : goal.ghosts-watch-O-Naming
ghosts-watch-O-Naming g a = record { book = a.book.seen.book }
