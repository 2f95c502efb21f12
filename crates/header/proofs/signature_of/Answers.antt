-- The two counts of the header.
use mathlib.Core.Path.{ap}
use Rattle.language.specs.declared.Signature.{Signature}
use Rattle.header.specs.declared.Header.{Header}
use Rattle.header.proofs.signature_of.Goals as goal

abbrev signed : Header → Signature
signed h = record { symbols = h.symbols; unordered = h.unordered }

pub returns : goal.returns
returns c = ap signed c.read_header-h.ensures
