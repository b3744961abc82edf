use Rattle.server_text.proofs.spelling.+push_wide_digits.Given as goal

abbrev pub decreases-push_wide_digits : goal.decreases-push_wide_digits
decreases-push_wide_digits l = l.number
