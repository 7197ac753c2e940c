-- `lay` meets its contract: a quote with a frame has at most six columns, for which there is room.
use borrow.Author.Rules.{rules}
use Rattle.frame_writer.proofs.WriteCases.{quote_fits}
use Rattle.frame_writer.proofs.lay.Goals as goal

pub lay_quote-requires : goal.lay_quote-requires
lay_quote-requires c = quote_fits _ c.args.columns _ (search rules) (rw c.in-Quote.is at c.requires.0) (rw c.in-Quote.is at c.requires.1)
