mod PageHeaders
