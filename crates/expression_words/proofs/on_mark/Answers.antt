-- `expression_words::on_mark` meets its contract: character by character.
use Rattle.expression_words.proofs.Rows.{end_marked, bad-marked, symbol-marked, one-marked, function-marked, equals-marked, star-marked, times-marked, comma-marked, plus-marked, as-opens, closes-marked}
use Rattle.expression_words.proofs.on_mark.Goals as goal

pub on_opens-requires : goal.on_opens-requires
on_opens-requires c = (c.requires.inside c.in-Opens.is, c.requires.high, c.requires.few.0, c.requires.few.1)

pub returns-in-End : goal.returns-in-End
returns-in-End c = end_marked c.args.s c.requires.high c.in-End.is

pub returns-in-Bad : goal.returns-in-Bad
returns-in-Bad c = bad-marked c.args.s c.requires.high c.in-Bad.is

pub returns-in-Symbol : goal.returns-in-Symbol
returns-in-Symbol c = symbol-marked c.args.s c.requires.high c.in-Symbol.is

pub returns-in-One : goal.returns-in-One
returns-in-One c = one-marked c.args.s c.requires.high c.in-One.is

pub returns-in-Run : goal.returns-in-Run
returns-in-Run c = times-marked c.args.s c.requires.high c.in-Run.is c.on_times.ensures

pub returns-in-Function : goal.returns-in-Function
returns-in-Function c = function-marked c.args.s c.requires.high c.in-Function.is

pub returns-in-Equals : goal.returns-in-Equals
returns-in-Equals c = equals-marked c.args.s c.requires.high c.in-Equals.is

pub returns-in-Comma : goal.returns-in-Comma
returns-in-Comma c = comma-marked c.args.s c.in-Comma.is c.on_comma.ensures

pub returns-in-Opens : goal.returns-in-Opens
returns-in-Opens c = as-opens c.args.s c.in-Opens.is c.on_opens.ensures

pub returns-in-Closes : goal.returns-in-Closes
returns-in-Closes c = closes-marked c.args.s c.requires.high c.in-Closes.is c.on_closes.ensures

pub returns-in-Plus : goal.returns-in-Plus
returns-in-Plus c = plus-marked c.args.s c.in-Plus.is c.on_plus.ensures

pub returns-in-Times : goal.returns-in-Times
returns-in-Times c = star-marked c.args.s c.requires.high c.in-Times.is
