mod CheckedViews
mod TypedViews
