pub mod SizeMarks
