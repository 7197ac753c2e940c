-- What is counted stands in the output.
use Rattle.csv_frames.proofs.Importing.{imported_fits}
use Rattle.csv_import.proofs.import_in.Goals as goal

pub answer-requires : goal.answer-requires
answer-requires g c = imported_fits c.import-imported.ensures
