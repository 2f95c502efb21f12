-- What a script gets of what solving came to: open lines are lines.
use Rattle.outcomes.specs.declared.Outcome.{Outcome}
use Rattle.outcomes.specs.declared.Outcome.TheVariants.{Refused, NoLine, AllSolved, SomeOpen}
use Rattle.files.specs.declared.status.Status.{Status}
use Rattle.files.specs.declared.status.Status.TheVariants.{Found, Nothing, Failed}

abbrev pub status_of : Outcome → Status
status_of (Refused r) = Failed
status_of NoLine = Nothing
status_of AllSolved = Found
status_of SomeOpen = Found
