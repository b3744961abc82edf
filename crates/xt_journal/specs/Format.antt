-- The bytes of a journal, and what they stand for: named here for the crates above.
pub use Rattle.journal_areas.specs.Format.{open_gate, sign, header, record_of, records, journal_of, end_of, superblock_kind, IsPayload, IsGiven, AreGiven}
pub use Rattle.journal_areas.specs.Areas.{Reached, end_in, IsJournal, IsShort, StandsIn, StandsFor, IsDamaged}
pub use Rattle.journal_areas.specs.Kept.{KeepsIn, KeepsJournal, EndsAt}
