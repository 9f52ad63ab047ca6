mod RewritingMenu
mod RewritingLaw
mod Rewriting
mod ReadingLaw
