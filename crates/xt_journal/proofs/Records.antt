-- The bytes of a record, for the crates above.
pub use Rattle.journal_areas.proofs.Records.{length-record, number_of_record, not_cut_off}
